use Rattle.wq_items.proofs.SliceLemmas.{names-slices, name-slice}
use Rattle.wq_items.proofs.laws.names_are_slices_of_the_text.Goals as goal

pub returns-clause-each : goal.returns-clause-each
returns-clause-each c = name-slice

pub returns-clause-all : goal.returns-clause-all
returns-clause-all c = names-slices
