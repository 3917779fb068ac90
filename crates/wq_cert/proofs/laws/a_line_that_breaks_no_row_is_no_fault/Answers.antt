use Rattle.wq_cert.proofs.LineRows.{plan_reading-KeepsLine, circle_reading-KeepsLine, run_reading-KeepsLine}
use Rattle.wq_cert.proofs.laws.a_line_that_breaks_no_row_is_no_fault.Goals as goal

pub returns-clause-plan : goal.returns-clause-plan
returns-clause-plan c = λ names p form before line differ each stands keeps. plan_reading-KeepsLine names differ form before line p each stands keeps

pub returns-clause-circle : goal.returns-clause-circle
returns-clause-circle c = λ names form before line differ stands keeps. circle_reading-KeepsLine names differ form before line stands keeps

pub returns-clause-run : goal.returns-clause-run
returns-clause-run c = λ names form before line differ stands keeps. run_reading-KeepsLine names differ form before line stands keeps
