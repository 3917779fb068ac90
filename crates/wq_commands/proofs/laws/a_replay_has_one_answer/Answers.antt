use Rattle.wq_commands.proofs.ReplayAnswers.{ReplaysRun-unique}
use Rattle.wq_commands.proofs.laws.a_replay_has_one_answer.Goals as goal

pub returns-clause-end : goal.returns-clause-end
returns-clause-end c = λ text lanes steps end other out printed one two. (ReplaysRun-unique text lanes steps end other out printed one two).0

pub returns-clause-out : goal.returns-clause-out
returns-clause-out c = λ text lanes steps end other out printed one two. (ReplaysRun-unique text lanes steps end other out printed one two).1
