use Rattle.wq_commands.proofs.AnswerLemmas.{IsSound-declaration}
use Rattle.wq_commands.proofs.TextLength.{length-planned, IsShort-planned}
use Rattle.wq_commands.proofs.laws.a_printed_plan_is_within_the_limits.Goals as goal

pub returns-clause-text : goal.returns-clause-text
returns-clause-text c = λ text s a declared plan. length-planned s (IsSound-declaration text s declared) a plan

pub returns-clause-lines : goal.returns-clause-lines
returns-clause-lines c = λ text s a declared plan. IsShort-planned s (IsSound-declaration text s declared) a plan
