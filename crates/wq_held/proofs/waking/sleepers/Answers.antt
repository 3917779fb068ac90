use Rattle.std.proofs.Common.{subst}
use Rattle.wq_history.proofs.Words.{IsEarly}
use Rattle.wq_held.proofs.Words.{Call}
use Rattle.wq_held.proofs.TakenTurns.{awaited-there}
use Rattle.wq_held.proofs.waking.sleepers.Goals as goal

pub subject_of-requires : goal.subject_of-requires
subject_of-requires g c =
    awaited-there c.args.book.now c.requires.0 c.in-Over.field-0 c.in-Over.flush
    (subst (λ (call : Call). IsEarly c.args.book.now call) c.in-Over.is c.requires.1)
