use Rattle.wq_items.proofs.FlushLemmas.{flush_count-table_of, named_targets-table_of}
use Rattle.wq_items.proofs.laws.targets_are_those_of_the_flush_lines.Goals as goal

pub returns-clause-count : goal.returns-clause-count
returns-clause-count c = flush_count-table_of

pub returns-clause-targets : goal.returns-clause-targets
returns-clause-targets c = named_targets-table_of
