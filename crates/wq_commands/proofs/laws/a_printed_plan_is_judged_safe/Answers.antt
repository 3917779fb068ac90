use Rattle.wq_commands.proofs.PlansJudged.{Judges-plan}
use Rattle.wq_commands.proofs.laws.a_printed_plan_is_judged_safe.Goals as goal

pub returns : goal.returns
returns c = Judges-plan
