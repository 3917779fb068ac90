use Rattle.wq_cert.proofs.LinesBehind.{plan_reading-behind, circle_reading-behind, run_reading-behind}
use Rattle.wq_cert.proofs.laws.a_line_after_the_end_is_refused.Goals as goal

pub returns-clause-plan : goal.returns-clause-plan
returns-clause-plan c = λ names p lines plan line behind e. plan_reading-behind names p lines plan line behind e

pub returns-clause-circle : goal.returns-clause-circle
returns-clause-circle c = λ names lines circle line behind e some. circle_reading-behind names lines circle line behind e some

pub returns-clause-run : goal.returns-clause-run
returns-clause-run c = λ names lines steps line behind e. run_reading-behind names lines steps line behind e
