use Rattle.wq_text.proofs.WordLaws.{AreTheWords-words_from, words_from-AreTheWords}
use Rattle.wq_text.proofs.laws.words_are_the_only_ones.Goals as goal

pub returns-clause-are : goal.returns-clause-are
returns-clause-are c = AreTheWords-words_from

pub returns-clause-only : goal.returns-clause-only
returns-clause-only c = words_from-AreTheWords
