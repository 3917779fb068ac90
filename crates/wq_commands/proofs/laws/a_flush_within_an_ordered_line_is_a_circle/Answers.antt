use Rattle.wq_commands.proofs.Examples.{ordered_flush}
use Rattle.wq_commands.proofs.laws.a_flush_within_an_ordered_line_is_a_circle.Goals as goal

pub returns : goal.returns
returns c = ordered_flush
