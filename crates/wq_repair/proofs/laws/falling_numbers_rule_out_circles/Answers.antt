use Rattle.wq_repair.proofs.Joining.{no_circle-falls}
use Rattle.wq_repair.proofs.laws.falling_numbers_rule_out_circles.Goals as goal

pub returns : goal.returns
returns g c = λ number falls circle. no_circle-falls g.R.Relation.waits number falls circle
