use Rattle.wq_cert.proofs.LineRows.{plan_reading-BreaksLine, circle_reading-BreaksLine, run_reading-BreaksLine}
use Rattle.wq_cert.proofs.laws.each_other_line_is_refused_by_its_first_row.Goals as goal

pub returns-clause-plan : goal.returns-clause-plan
returns-clause-plan c = λ names p form before line behind fault differ each stands breaks. plan_reading-BreaksLine names differ form before line p each stands behind fault breaks

pub returns-clause-circle : goal.returns-clause-circle
returns-clause-circle c = λ names form before line behind fault differ stands breaks. circle_reading-BreaksLine names differ form before line stands behind fault breaks

pub returns-clause-run : goal.returns-clause-run
returns-clause-run c = λ names form before line behind fault differ stands breaks. run_reading-BreaksLine names differ form before line stands behind fault breaks
