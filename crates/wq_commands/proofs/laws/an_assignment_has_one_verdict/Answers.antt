use Rattle.wq_commands.proofs.JudgeLemmas.{Judges-exist, Judges-same_end, Judges-same_out}
use Rattle.wq_commands.proofs.laws.an_assignment_has_one_verdict.Goals as goal

pub returns-clause-one : goal.returns-clause-one
returns-clause-one c = Judges-exist

pub returns-clause-end : goal.returns-clause-end
returns-clause-end c = Judges-same_end

pub returns-clause-out : goal.returns-clause-out
returns-clause-out c =
    λ declared text end other out printed sure. Judges-same_out declared text end other out printed sure
