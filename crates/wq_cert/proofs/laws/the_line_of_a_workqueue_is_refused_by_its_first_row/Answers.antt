use Rattle.wq_cert.proofs.WorkqueueRows.{plan_reading-BreaksWorkqueueRow, workqueues_reading-BreaksWorkqueueRow}
use Rattle.wq_cert.proofs.laws.the_line_of_a_workqueue_is_refused_by_its_first_row.Goals as goal

pub returns-clause-plan : goal.returns-clause-plan
returns-clause-plan c = λ names p k workqueues before line behind fault differ few below words first breaks. plan_reading-BreaksWorkqueueRow names p differ k workqueues before line behind fault few below words first breaks

pub returns-clause-workqueues : goal.returns-clause-workqueues
returns-clause-workqueues c = λ names p workqueues before line behind fault differ words is_wq first breaks. workqueues_reading-BreaksWorkqueueRow names p differ workqueues before line behind fault words is_wq first breaks
