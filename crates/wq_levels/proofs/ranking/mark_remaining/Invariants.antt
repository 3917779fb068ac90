use Rattle.wq_levels.proofs.Marked.{IsMarking}
use Rattle.wq_levels.proofs.ranking.mark_remaining.Given as goal

abbrev pub invariant-loop-v : goal.invariant-loop-v
invariant-loop-v l = IsMarking l.remaining l.mark l.initial.ranks l.ranks l.v
