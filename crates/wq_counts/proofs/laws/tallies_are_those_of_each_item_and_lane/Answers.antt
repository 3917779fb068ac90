use Rattle.wq_counts.proofs.Tallies.{made-tally, made_lane-tally, AreTallies-each}
use Rattle.wq_counts.proofs.laws.tallies_are_those_of_each_item_and_lane.Goals as goal

pub returns : goal.returns
returns c = λ n rows counts. (
  (λ tallies. (made-tally n rows counts tallies, made_lane-tally n rows counts tallies)),
  (λ each. AreTallies-each n rows counts each.0 each.1),
)
