use Rattle.wq_commands.proofs.Examples.{two_items}
use Rattle.wq_commands.proofs.laws.two_items_take_two_workqueues.Goals as goal

pub returns : goal.returns
returns c = two_items
