use Rattle.wq_around_command.proofs.Promised.{KeepsAround-plans}
use Rattle.wq_around_command.proofs.laws.a_plan_around_keeps_its_promise.Goals as goal

pub returns : goal.returns
returns c = KeepsAround-plans
