use Rattle.std.proofs.Common.{◌≡◌, map, take}
use Rattle.wq_core.specs.Building.{idle_of_shape}
use Rattle.wq_core.proofs.lanes.Lanes.new.Given as goal

abbrev pub invariant-loop-shape : goal.invariant-loop-shape
invariant-loop-shape g l = l.lanes.items ≡ map (idle_of_shape l.helpers) (take l.shape-index l.shapes)
