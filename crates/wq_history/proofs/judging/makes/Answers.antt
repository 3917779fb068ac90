use Rattle.wq_history.proofs.Judged.{peeked}
use Rattle.wq_history.proofs.judging.makes.Goals as goal

pub returns : goal.returns
returns g c =
    rw c.eq.ensures
    (peeked c.args.core.now c.args.step.now c.peek.result c.args.number c.items-items.ensures.machine c.requires
    c.peek.ensures.some c.peek.ensures.none)
