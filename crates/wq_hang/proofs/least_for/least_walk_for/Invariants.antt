use Rattle.std.proofs.Common.{take}
use Rattle.std.specs.List.{All}
use Rattle.wq_core.specs.Wiring.{HasRescuer, lane_of}
use Rattle.wq_hang.proofs.least_for.least_walk_for.Given as goal

-- the lanes of the items so far have rescuers
abbrev pub invariant-loop-item : goal.invariant-loop-item
invariant-loop-item g l = All (λ i. HasRescuer l.waits (lane_of l.waits i)) (take l.item-index l.named)
