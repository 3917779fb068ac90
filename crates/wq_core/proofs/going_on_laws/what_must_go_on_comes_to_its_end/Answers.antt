use Rattle.wq_core.proofs.GoingOn.{comes_to_its_end}
use Rattle.wq_core.proofs.going_on_laws.what_must_go_on_comes_to_its_end.Goals as goal

pub returns : goal.returns
returns c = comes_to_its_end
