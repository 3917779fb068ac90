use Rattle.std.proofs.Common.{ap}
use Rattle.wq_counts.specs.Counting.{made, made_lane}
use Rattle.wq_counts.proofs.Places.{same_counts, same_places}
use Rattle.wq_counts.proofs.laws.counts_are_equal_where_each_count_is.Goals as goal

pub returns : goal.returns
returns c = λ n a b ha hb. (
  (λ same. ((λ i kind said within. ap (λ d. made d i kind said) same), (λ q kind said within. ap (λ d. made_lane d q kind said) same))),
  (λ each. same_counts n a b ha hb (same_places n a b each.0 each.1)),
)
