use Rattle.wq_commands.proofs.AnswerLemmas.{IsSound-declaration, IsDeclaration-sound}
use Rattle.wq_commands.proofs.laws.what_a_text_declares_is_a_declaration.Goals as goal

pub returns-clause-declared : goal.returns-clause-declared
returns-clause-declared c = λ text s declared. IsDeclaration-sound s (IsSound-declaration text s declared)

pub returns-clause-table : goal.returns-clause-table
returns-clause-table c = λ text s declared. (IsSound-declaration text s declared).table

pub returns-clause-partition : goal.returns-clause-partition
returns-clause-partition c = λ text s declared. (IsSound-declaration text s declared).partition

pub returns-clause-one_group_each : goal.returns-clause-one_group_each
returns-clause-one_group_each c = λ text s declared. (IsSound-declaration text s declared).one_group_each
