use Rattle.wq_counts.proofs.Tallies.{AreTallies-none, AreTallies-more}
use Rattle.wq_counts.proofs.laws.tallies_are_kept_row_by_row.Goals as goal

pub returns-clause-none : goal.returns-clause-none
returns-clause-none c = AreTallies-none

pub returns-clause-more : goal.returns-clause-more
returns-clause-more c = AreTallies-more
