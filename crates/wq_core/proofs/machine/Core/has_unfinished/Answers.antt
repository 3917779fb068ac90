use Rattle.wq_core.proofs.Machines.{HasUnfinishedOf-answer}
use Rattle.wq_core.proofs.machine.Core.has_unfinished.Goals as goal

pub returns : goal.returns
returns g c =
    let m = c.args.self.now in
    HasUnfinishedOf-answer m.wiring m.state c.args.item c.next_number.result c.unfinished_below.result c.next_number.ensures.machine.state c.next_number.ensures.number c.unfinished_below.ensures
