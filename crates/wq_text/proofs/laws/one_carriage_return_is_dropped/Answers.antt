use Rattle.wq_text.proofs.LineLemmas.{strip_carriage_return-return, strip_carriage_return-other}
use Rattle.wq_text.proofs.laws.one_carriage_return_is_dropped.Goals as goal

pub returns-clause-dropped : goal.returns-clause-dropped
returns-clause-dropped c = strip_carriage_return-return

pub returns-clause-others_stay : goal.returns-clause-others_stay
returns-clause-others_stay c = strip_carriage_return-other
