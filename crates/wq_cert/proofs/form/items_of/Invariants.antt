use Rattle.wq_cert.proofs.FormLemmas.{FoundSoFar}
use Rattle.wq_cert.proofs.form.items_of.Given as goal

abbrev pub invariant-loop-word : goal.invariant-loop-word
invariant-loop-word g l = FoundSoFar l.table.names l.items.items l.word-iterator l.fn.words
