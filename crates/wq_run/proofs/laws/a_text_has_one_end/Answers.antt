use Rattle.wq_run.proofs.Uniqueness.{RunsPlan-end, RunsPlan-text}
use Rattle.wq_run.proofs.laws.a_text_has_one_end.Goals as goal

pub returns-clause-end : goal.returns-clause-end
returns-clause-end c = λ helpers others text end other out printed one two. RunsPlan-end helpers others text end other out printed one two

pub returns-clause-out : goal.returns-clause-out
returns-clause-out c = λ helpers others text end out printed other one two. RunsPlan-text helpers others text end out printed other one two
