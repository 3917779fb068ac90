use Rattle.wq_counts.proofs.Tallies.{sum-tallies}
use Rattle.wq_counts.proofs.laws.tallies_sum_up_to_the_counted_rows.Goals as goal

pub returns : goal.returns
returns c = sum-tallies
