use Rattle.wq_commands.proofs.AnswerLemmas.{too_long, declaration-take}
use Rattle.wq_commands.proofs.laws.a_long_text_is_refused_by_its_prefix.Goals as goal

pub returns-clause-refused : goal.returns-clause-refused
returns-clause-refused c = too_long

pub returns-clause-prefix : goal.returns-clause-prefix
returns-clause-prefix c = declaration-take
