use Rattle.wq_commands.proofs.CheckAnswers.{Checks-unique}
use Rattle.wq_commands.proofs.laws.a_check_has_one_answer.Goals as goal

pub returns-clause-end : goal.returns-clause-end
returns-clause-end c = λ text claim end other out printed one two. (Checks-unique text claim end other out printed one two).0

pub returns-clause-out : goal.returns-clause-out
returns-clause-out c = λ text claim end other out printed one two. (Checks-unique text claim end other out printed one two).1
