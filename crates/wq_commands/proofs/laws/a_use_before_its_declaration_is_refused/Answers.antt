use Rattle.wq_commands.proofs.Examples.{early_use}
use Rattle.wq_commands.proofs.laws.a_use_before_its_declaration_is_refused.Goals as goal

pub returns : goal.returns
returns c = early_use
