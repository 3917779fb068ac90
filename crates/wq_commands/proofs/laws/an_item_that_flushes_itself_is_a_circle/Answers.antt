use Rattle.wq_commands.proofs.Examples.{self_flush}
use Rattle.wq_commands.proofs.laws.an_item_that_flushes_itself_is_a_circle.Goals as goal

pub returns : goal.returns
returns c = self_flush
