use Rattle.wq_commands.proofs.AnswerLemmas.{IsSound-declaration}
use Rattle.wq_commands.proofs.PromiseLemmas.{IsReadAsGoodPlan-shown, IsReadAsGoodCircle-shown}
use Rattle.wq_commands.proofs.laws.what_is_promised_is_read.Goals as goal

pub returns-clause-plan : goal.returns-clause-plan
returns-clause-plan c = λ text out s e. IsReadAsGoodPlan-shown s (IsSound-declaration text s e) out

pub returns-clause-circle : goal.returns-clause-circle
returns-clause-circle c = λ text out s e. IsReadAsGoodCircle-shown s (IsSound-declaration text s e) out
