use Rattle.wq_around_command.proofs.Promised.{YesIsTrueAround-checks}
use Rattle.wq_around_command.proofs.laws.a_yes_around_is_true.Goals as goal

pub returns : goal.returns
returns c = YesIsTrueAround-checks
