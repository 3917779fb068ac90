use Rattle.wq_commands.proofs.Examples.{own_workqueue_flush}
use Rattle.wq_commands.proofs.laws.an_item_that_flushes_its_own_workqueue_is_a_circle.Goals as goal

pub returns : goal.returns
returns c = own_workqueue_flush
