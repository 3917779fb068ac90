use Rattle.wq_cert.specs.Reading.{answer_reading, assignment_reading, lanes_reading, run_reading}
use Rattle.wq_cert.proofs.LongCertificates.{text_reading-long, text_reading-take}
use Rattle.wq_cert.proofs.laws.a_long_certificate_is_refused_by_its_prefix.Goals as goal

pub returns-clause-answer : goal.returns-clause-answer
returns-clause-answer c = λ names p. text_reading-long (answer_reading names p)

pub returns-clause-assignment : goal.returns-clause-assignment
returns-clause-assignment c = λ names p. text_reading-long (assignment_reading names p)

pub returns-clause-run : goal.returns-clause-run
returns-clause-run c = λ names. text_reading-long (run_reading names)

pub returns-clause-prefix_of_answer : goal.returns-clause-prefix_of_answer
returns-clause-prefix_of_answer c = λ names p. text_reading-take (answer_reading names p)

pub returns-clause-prefix_of_assignment : goal.returns-clause-prefix_of_assignment
returns-clause-prefix_of_assignment c = λ names p. text_reading-take (assignment_reading names p)

pub returns-clause-prefix_of_run : goal.returns-clause-prefix_of_run
returns-clause-prefix_of_run c = λ names. text_reading-take (run_reading names)

pub returns-clause-workqueues : goal.returns-clause-workqueues
returns-clause-workqueues c = λ names p. text_reading-long (lanes_reading names p)

pub returns-clause-prefix_of_workqueues : goal.returns-clause-prefix_of_workqueues
returns-clause-prefix_of_workqueues c = λ names p. text_reading-take (lanes_reading names p)
