use Rattle.wq_commands.proofs.Examples.{grouped_twice}
use Rattle.wq_commands.proofs.laws.an_item_on_two_ordered_lines_is_refused.Goals as goal

pub returns : goal.returns
returns c = grouped_twice
