use Rattle.wq_cert.proofs.ReadRanges.{IsCertificateOf-answer_of, IsAssignmentOf-assignment_of_text, IsRunOf-run_of}
use Rattle.wq_cert.proofs.ReadRanges.{IsRunOf-made_of}
use Rattle.wq_cert.proofs.LanesRead.{AreWorkqueuesOf-workqueues_of_text}
use Rattle.wq_cert.proofs.laws.what_is_read_is_in_range.Goals as goal

pub returns-clause-answer : goal.returns-clause-answer
returns-clause-answer c = λ names p text a partition each. IsCertificateOf-answer_of names p partition each text a

pub returns-clause-assignment : goal.returns-clause-assignment
returns-clause-assignment c = λ names p text a partition each. IsAssignmentOf-assignment_of_text names p partition each
    text a

pub returns-clause-workqueues : goal.returns-clause-workqueues
returns-clause-workqueues c = λ names p text ws partition each. AreWorkqueuesOf-workqueues_of_text names p partition
    each text ws

pub returns-clause-run : goal.returns-clause-run
returns-clause-run c = IsRunOf-run_of

pub returns-clause-made : goal.returns-clause-made
returns-clause-made c = IsRunOf-made_of
