use Rattle.std.proofs.Common.{refl}
use Rattle.wq_plan.proofs.Lanes.{lanes_of-above, lanes_of-some}
use Rattle.wq_plan.proofs.laws.lanes_are_counted.Goals as goal

pub returns : goal.returns
returns c = record {
  above = λ lane. lanes_of-above lane;
  last = λ lane some. lanes_of-some lane some;
  none = refl;
}
