use Rattle.wq_commands.proofs.PromiseLemmas.{YesIsTrue-checks}
use Rattle.wq_commands.proofs.laws.a_printed_yes_is_true.Goals as goal

pub returns : goal.returns
returns c = YesIsTrue-checks
