use Rattle.wq_circles.proofs.Answered.{Circles-judged, OwnCircles-planned}
use Rattle.wq_circles.proofs.laws.the_end_is_that_of_the_other_commands.Goals as goal

pub returns-clause-deadlock : goal.returns-clause-deadlock
returns-clause-deadlock c = Circles-judged

pub returns-clause-plan : goal.returns-clause-plan
returns-clause-plan c = OwnCircles-planned
