use Rattle.wq_items.proofs.BuildingLemmas.{names-table_of, spans-table_of}
use Rattle.wq_items.proofs.laws.items_are_those_of_the_item_lines.Goals as goal

pub returns-clause-names : goal.returns-clause-names
returns-clause-names c = names-table_of

pub returns-clause-spans : goal.returns-clause-spans
returns-clause-spans c = spans-table_of
