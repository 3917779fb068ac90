use Rattle.std.proofs.Common.{sym}
use Rattle.wq_counts.specs.Counting.{place, lane_place}
use Rattle.wq_counts.proofs.Places.{place-ne-lane_place, raised_at-other}
use Rattle.wq_counts.proofs.laws.one_more_raises_one_count.Goals as goal

pub returns-clause-no_lane : goal.returns-clause-no_lane
returns-clause-no_lane c = λ counts i q kind other said answer.
    raised_at-other counts (place i kind said) (lane_place q other answer) (λ e. place-ne-lane_place i q kind other said answer (sym e))
