use Rattle.std.proofs.Common.{subst}
use Rattle.wq_core.specs.Wiring.{IsWiring}
use Rattle.wq_hang.proofs.wires.Wires.lanes.Goals as goal

pub returns-clause-wiring : goal.returns-clause-wiring
returns-clause-wiring g c = subst IsWiring c.self.view_is c.self.invariant
