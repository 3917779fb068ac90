use Rattle.wq_hang.proofs.FewestFor.{no_later}
use Rattle.wq_hang.proofs.laws_for.more_items_are_held_up_no_later.Goals as goal

pub returns : goal.returns
returns c = no_later
