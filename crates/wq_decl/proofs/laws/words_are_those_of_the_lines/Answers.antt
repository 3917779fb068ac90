use Rattle.wq_decl.proofs.OriginLemmas.{IsFrom-directives}
use Rattle.wq_decl.proofs.laws.words_are_those_of_the_lines.Goals as goal

pub returns : goal.returns
returns c = IsFrom-directives
