use Rattle.wq_dot.proofs.BoldRed.{AreRed-shortest}
use Rattle.wq_dot.proofs.laws.what_is_bold_red_is_red.Goals as goal

pub returns : goal.returns
returns c = λ d ws components hops declaration assignment are shortest. AreRed-shortest d ws declaration assignment components are hops shortest
