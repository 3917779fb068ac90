use Rattle.std.proofs.Common.{◌≡◌, take}
use Rattle.std.specs.Prelude.{flat_map}
use Rattle.wq_hang.specs.Walk.{moves_of}
use Rattle.wq_hang.proofs.running.moves.Given as goal

abbrev pub invariant-loop-hop : goal.invariant-loop-hop
invariant-loop-hop g l = l.steps.items ≡ flat_map (moves_of l.waits) (take l.hop-index l.hops)
