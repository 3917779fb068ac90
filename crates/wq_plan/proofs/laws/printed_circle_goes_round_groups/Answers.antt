use Rattle.wq_plan.proofs.GroupCircles.{IsCircleOfGroups-walked}
use Rattle.wq_plan.proofs.laws.printed_circle_goes_round_groups.Goals as goal

pub returns : goal.returns
returns c = λ d circle is walked. IsCircleOfGroups-walked d is circle walked
