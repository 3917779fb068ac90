use Rattle.wq_items.proofs.TargetLemmas.{Counted}
use Rattle.wq_items.proofs.at_once.note_known.Given as goal

abbrev pub invariant-loop-word : goal.invariant-loop-word
invariant-loop-word g l = Counted l.names l.count l.word-iterator l.fn.words
