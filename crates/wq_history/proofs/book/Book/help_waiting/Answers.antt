use Rattle.std.proofs.Common.{false}
use Rattle.wq_history.proofs.Words.{Waiting, IsWaitingBy, HelperWaitsBy}
use Rattle.wq_history.proofs.Deeds.{none-weaker}
use Rattle.wq_history.proofs.book.Book.help_waiting.Goals as goal

pub returns-clause-none : goal.returns-clause-none
returns-clause-none g c =
    let b = c.args.self.now in
    none-weaker c.waiting_in.result ((f : Waiting) → ¬ IsWaitingBy b c.args.q c.args.h false f) ((f : Waiting) → ¬ HelperWaitsBy b c.args.q c.args.h false f)
    (λ none f waits. none f waits.1) c.waiting_in.ensures.none
