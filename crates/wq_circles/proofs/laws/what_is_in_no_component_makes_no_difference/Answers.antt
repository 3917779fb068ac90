use Rattle.wq_circles.proofs.NoDifference.{no_difference}
use Rattle.wq_circles.proofs.laws.what_is_in_no_component_makes_no_difference.Goals as goal

pub returns : goal.returns
returns c = λ d ws components place kept declaration assignment few are unprinted.
    no_difference d ws declaration assignment components are place kept unprinted few
