use Rattle.wq_commands.proofs.AnswerLemmas.{IsSound-declaration}
use Rattle.wq_commands.proofs.TextLength.{few_lines, length-circled, IsShort-circled}
use Rattle.wq_commands.proofs.laws.a_printed_circle_is_within_the_limits.Goals as goal

pub returns-clause-few : goal.returns-clause-few
returns-clause-few c = λ text s circle steps declared walked is_run. few_lines s (IsSound-declaration text s declared) circle steps walked is_run

pub returns-clause-text : goal.returns-clause-text
returns-clause-text c = λ text s circle steps declared walked is_run. length-circled s (IsSound-declaration text s declared) circle steps walked is_run

pub returns-clause-lines : goal.returns-clause-lines
returns-clause-lines c = λ text s circle steps declared walked is_run. IsShort-circled s (IsSound-declaration text s declared) circle steps walked is_run
