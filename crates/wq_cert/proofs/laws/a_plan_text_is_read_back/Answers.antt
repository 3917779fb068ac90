use Rattle.wq_cert.proofs.PrintedPlans.{answer_of-plan, assignment_of_text-plan}
use Rattle.wq_cert.proofs.laws.a_plan_text_is_read_back.Goals as goal

pub returns-clause-answer : goal.returns-clause-answer
returns-clause-answer c = λ t p a chain table is long assigned few arcs short none. answer_of-plan t p a chain table is long assigned few arcs short none

pub returns-clause-assignment : goal.returns-clause-assignment
returns-clause-assignment c = λ t p a chain table is long assigned few arcs short none. assignment_of_text-plan t p a chain table is long assigned few arcs short none
