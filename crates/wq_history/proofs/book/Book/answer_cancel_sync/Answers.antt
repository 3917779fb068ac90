use Rattle.std.proofs.Common.{◌≡◌, ◌<◌, true, false, arith}
use Rattle.wq_history.proofs.Words.{OfItem, free}
use Rattle.wq_history.proofs.Upheld.{ask_takes}
use Rattle.wq_history.proofs.CallRows.{cancel-lacks}
use Rattle.wq_history.proofs.book.Book.answer_cancel_sync.Goals as goal

pub unreachable-requires-in_default-write_cancel : goal.unreachable-requires-in_default-write_cancel
unreachable-requires-in_default-write_cancel g c =
    let b = c.args.self.now in
    let between = c.write_ask.new.self in
    let three : ¬ (free b < 3) = λ less. absurd (let never : false ≡ true = c.if-lacks.ensures.1 less in cc) in
    let enough = ask_takes b between (OfItem c.args.item) c.in-Some.asked c.in-Some.ensures in
    let none = cancel-lacks between c.args.item c.in_default-write_cancel.ensures.0 in
    absurd (omega (arith, three, enough, none))
