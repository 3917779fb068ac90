use Rattle.wq_counts.proofs.Tallies.{AreTallies-append}
use Rattle.wq_counts.proofs.laws.tallies_of_two_runs_of_rows_are_added.Goals as goal

pub returns : goal.returns
returns c = AreTallies-append
