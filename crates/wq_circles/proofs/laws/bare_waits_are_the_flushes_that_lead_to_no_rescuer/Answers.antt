use Rattle.wq_circles.proofs.ForBare.{AreForBare-waits}
use Rattle.wq_circles.proofs.laws.bare_waits_are_the_flushes_that_lead_to_no_rescuer.Goals as goal

pub returns : goal.returns
returns c = AreForBare-waits
