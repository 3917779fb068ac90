use Rattle.wq_run.proofs.Uniqueness.{RunsPlan-refused}
use Rattle.wq_run.proofs.laws.a_refusal_is_printed_as_by_plan.Goals as goal

pub returns : goal.returns
returns c = λ helpers text out is. RunsPlan-refused helpers text out is
