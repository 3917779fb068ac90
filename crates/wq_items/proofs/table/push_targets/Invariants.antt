use Rattle.std.proofs.Common.{◌≤◌}
use Rattle.wq_items.proofs.TargetLemmas.{Added}
use Rattle.wq_items.proofs.table.push_targets.Given as goal

abbrev pub invariant-loop-word : goal.invariant-loop-word
invariant-loop-word g l = Added l.names l.fn.waits l.waits l.item l.place l.next l.word-iterator l.fn.targets × (l.next ≤ 16384)
