use Rattle.wq_commands.proofs.Examples.{third_name}
use Rattle.wq_commands.proofs.laws.a_third_name_on_a_flushwq_line_is_refused.Goals as goal

pub returns : goal.returns
returns c = third_name
