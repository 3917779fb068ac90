use Rattle.wq_repair.proofs.Ends.{IsNeededCircle-unique}
use Rattle.wq_repair.proofs.laws.a_needed_circle_is_unique.Goals as goal

pub returns : goal.returns
returns c = λ d old one other declaration. IsNeededCircle-unique d old declaration one other
