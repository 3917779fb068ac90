use Rattle.std.proofs.Common.{◌≡◌, false}
use Rattle.std.specs.Prelude.{replicate}
use Rattle.std.specs.List.{range_with_len}
use Rattle.wq_groups.proofs.NoteLemmas.{NotedSoFar}
use Rattle.wq_groups.proofs.reading.first_members.Given as goal

-- the items so far are their own first, and none is marked
abbrev pub invariant-loop-i : goal.invariant-loop-i
invariant-loop-i g l = (l.first.items ≡ range_with_len 0 l.i) × (l.ordered.items ≡ replicate l.i false)

abbrev pub invariant-loop-line : goal.invariant-loop-line
invariant-loop-line g l = NotedSoFar l.view l.line-iterator l.table.names l.first.items l.ordered.items
