use Rattle.wq_cert.proofs.SpelledAnswers.{SpellsCertificate-answer_of, answer_of-spelled, SpellsAssignment-assignment_of_text, assignment_of_text-spelled, SpellsRun-run_of, run_of-spelled}
use Rattle.wq_cert.proofs.laws.texts_are_read_where_they_spell.Goals as goal

pub returns-clause-answer : goal.returns-clause-answer
returns-clause-answer c = λ names p text answer differ each. (SpellsCertificate-answer_of names p each text answer, answer_of-spelled names p each differ text answer)

pub returns-clause-assignment : goal.returns-clause-assignment
returns-clause-assignment c = λ names p text a differ each. (SpellsAssignment-assignment_of_text names p each text a, assignment_of_text-spelled names p each differ text a)

pub returns-clause-run : goal.returns-clause-run
returns-clause-run c = λ names text steps differ. (SpellsRun-run_of names text steps, run_of-spelled names differ text steps)
