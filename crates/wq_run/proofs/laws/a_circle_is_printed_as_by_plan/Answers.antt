use Rattle.wq_run.proofs.laws.a_circle_is_printed_as_by_plan.Goals as goal

pub returns : goal.returns
returns c = λ helpers text out. (λ is. is, λ is. is)
