use Rattle.wq_groups.proofs.MarkLemmas.{Marked}
use Rattle.wq_groups.proofs.reading.mark.Given as goal

abbrev pub invariant-loop-word : goal.invariant-loop-word
invariant-loop-word g l = Marked l.table.names l.fn.ordered l.ordered l.items.items l.lowest l.word-iterator l.fn.names
