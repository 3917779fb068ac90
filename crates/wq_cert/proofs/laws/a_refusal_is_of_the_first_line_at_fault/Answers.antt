use Rattle.wq_cert.proofs.FirstReaders.{Settles-answer_reading, Settles-assignment_reading, Settles-run_reading}
use Rattle.wq_cert.proofs.FirstTexts.{IsOfTheFirstLine-text_reading}
use Rattle.wq_cert.specs.Reading.{answer_reading, assignment_reading, run_reading}
use Rattle.wq_cert.proofs.laws.a_refusal_is_of_the_first_line_at_fault.Goals as goal

pub returns-clause-answer : goal.returns-clause-answer
returns-clause-answer c = λ names p text fault keeps refused some. IsOfTheFirstLine-text_reading (answer_reading names p) (Settles-answer_reading names p) text fault keeps refused some

pub returns-clause-assignment : goal.returns-clause-assignment
returns-clause-assignment c = λ names p text fault keeps refused some. IsOfTheFirstLine-text_reading (assignment_reading names p) (Settles-assignment_reading names p) text fault keeps refused some

pub returns-clause-run : goal.returns-clause-run
returns-clause-run c = λ names text fault keeps refused some. IsOfTheFirstLine-text_reading (run_reading names) (Settles-run_reading names) text fault keeps refused some
