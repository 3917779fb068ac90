use Rattle.std.proofs.Common.{arith}
use Rattle.wq_core.proofs.Machines.{runs_below-exactly, running-item}
use Rattle.wq_core.proofs.machine.Core.runs_below.Goals as goal

pub returns-then-from-items : goal.returns-then-from-items
returns-then-from-items g c =
    let m = c.args.self.now in
    rw c.runs_below.ensures (runs_below-exactly m.wiring m.state c.lane_of.result c.args.item c.args.mark c.lane.result.now.lane c.items.ensures.machine.state c.lane_of.ensures.lane c.lane.ensures.lane)

pub returns-else-from-items : goal.returns-else-from-items
returns-else-from-items g c =
    let m = c.args.self.now in (
      (λ h. absurd cc),
      (λ h. absurd (omega (arith, running-item m.wiring m.state h.lane h.context h.running c.items.ensures.machine.state h.runs, h.of_item, c.if-from-items.false, c.items.ensures.items, c.from.ensures, c.get.ensures))),
    )
