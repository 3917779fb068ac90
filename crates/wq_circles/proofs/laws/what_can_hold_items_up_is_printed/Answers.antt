use Rattle.wq_circles.proofs.HeldPromised.{KeepsHeldCircles-answers}
use Rattle.wq_circles.proofs.laws.what_can_hold_items_up_is_printed.Goals as goal

pub returns : goal.returns
returns c = KeepsHeldCircles-answers
