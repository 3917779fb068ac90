use Rattle.wq_commands.proofs.Uniqueness.{Answers-unique}
use Rattle.wq_commands.proofs.laws.a_text_has_one_answer.Goals as goal

pub returns-clause-end : goal.returns-clause-end
returns-clause-end c = λ text end other out printed one two. (Answers-unique text end other out printed one two).0

pub returns-clause-out : goal.returns-clause-out
returns-clause-out c = λ text end other out printed one two. (Answers-unique text end other out printed one two).1
