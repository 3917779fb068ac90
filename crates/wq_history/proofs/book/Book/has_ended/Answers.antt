use Rattle.std.proofs.Common.{◌≡◌, true}
use Rattle.wq_history.proofs.CallRows.{says_nothing}
use Rattle.wq_history.proofs.book.Book.has_ended.Goals as goal

pub returns-then-self : goal.returns-then-self
returns-then-self g c =
    let closed : c.args.self.now.closed ≡ true = rw (← c.self.view_is) c.if-self.true in
    let says = says_nothing c.args.self.now c.args.q c.is_pending_on.result c.is_pending_on.ensures in
    ((λ is. (closed, says.0 is)), (λ ended. says.1 ended.1))
