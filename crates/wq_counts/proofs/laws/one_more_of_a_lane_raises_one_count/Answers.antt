use Rattle.wq_counts.specs.Counting.{place, lane_place}
use Rattle.wq_counts.proofs.Places.{lane_place-same, place-ne-lane_place, lane_place-lt-length, raised_at-same, raised_at-other}
use Rattle.wq_counts.proofs.laws.one_more_of_a_lane_raises_one_count.Goals as goal

pub returns-clause-same : goal.returns-clause-same
returns-clause-same c = λ counts q kind said within. raised_at-same counts (lane_place q kind said) (lane_place-lt-length counts q kind said within)

pub returns-clause-other : goal.returns-clause-other
returns-clause-other c = λ counts q p kind other said answer differ.
    raised_at-other counts (lane_place q kind said) (lane_place p other answer) (λ e. differ (lane_place-same p q other kind answer said e))

pub returns-clause-no_item : goal.returns-clause-no_item
returns-clause-no_item c = λ counts q i kind other said answer.
    raised_at-other counts (lane_place q kind said) (place i other answer) (place-ne-lane_place i q other kind answer said)
