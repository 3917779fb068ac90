use Rattle.wq_cert.proofs.MissingItems.{plan_reading-missing, workqueues_reading-missing, workqueues_reading-other}
use Rattle.wq_cert.proofs.laws.missing_items_are_answered_after_the_workqueues.Goals as goal

pub returns-clause-plan : goal.returns-clause-plan
returns-clause-plan c = λ names p workqueues lines behind differ each words first missing. plan_reading-missing names p each differ workqueues lines behind words first missing

pub returns-clause-workqueues : goal.returns-clause-workqueues
returns-clause-workqueues c = λ names p workqueues before behind differ each words stops first missing. workqueues_reading-missing names p each differ workqueues before behind words stops first missing

pub returns-clause-other : goal.returns-clause-other
returns-clause-other c = λ names p workqueues before line behind differ each words stops are. workqueues_reading-other names p each differ workqueues before line behind words stops are
