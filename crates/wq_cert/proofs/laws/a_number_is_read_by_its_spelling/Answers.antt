use Rattle.wq_cert.proofs.SpelledNumbers.{Spells-number_of, number_of-Spells}
use Rattle.wq_cert.proofs.laws.a_number_is_read_by_its_spelling.Goals as goal

pub returns : goal.returns
returns c = λ word n. (Spells-number_of word n, number_of-Spells word n)
