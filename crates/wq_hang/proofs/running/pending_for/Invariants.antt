use Rattle.std.proofs.Common.{◌++◌, take}
use Rattle.std.specs.Prelude.{flat_map}
use Rattle.wq_core.specs.Wiring.{items}
use Rattle.wq_hang.specs.WalkFor.{named_beside, pending_beside}
use Rattle.wq_hang.proofs.OnceMarked.{AreOnce}
use Rattle.wq_hang.proofs.running.pending_for.Given as goal

-- what is pending for the hops so far
abbrev pub invariant-loop-hop : goal.invariant-loop-hop
invariant-loop-hop g l = AreOnce (items l.waits) l.marks.items l.list.items
    (named_beside l.fn.named l.hops ++ flat_map (pending_beside l.waits) (take l.hop-index l.hops))
