use Rattle.wq_circles.proofs.Rounds.{IsRoundOn-component}
use Rattle.wq_circles.proofs.laws.a_component_has_a_round.Goals as goal

pub returns : goal.returns
returns c = IsRoundOn-component
