use Rattle.std.proofs.Common.{◌<◌}
use Rattle.wq_core.specs.Wiring.{items}
use Rattle.wq_hang.proofs.least_for.Field.nearest.Given as goal

abbrev pub invariant-loop-hop : goal.invariant-loop-hop
invariant-loop-hop g l = l.nearest < items l.self.wiring
