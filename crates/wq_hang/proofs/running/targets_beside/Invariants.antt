use Rattle.std.proofs.Common.{◌≡◌, take}
use Rattle.std.specs.Prelude.{flat_map}
use Rattle.wq_hang.specs.Walk.{target_beside}
use Rattle.wq_hang.proofs.running.targets_beside.Given as goal

abbrev pub invariant-loop-hop : goal.invariant-loop-hop
invariant-loop-hop g l = l.beside.items ≡ flat_map target_beside (take l.hop-index l.hops)
