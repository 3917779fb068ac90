use Rattle.wq_core.proofs.GoingOn.{each-goes_on}
use Rattle.wq_core.proofs.going_on_laws.several_items_go_on_if_each_does.Goals as goal

pub returns : goal.returns
returns c = each-goes_on
