use Rattle.wq_hang.proofs.Fewest.{IsFewest-sure}
use Rattle.wq_hang.proofs.laws.without_unsure_flushes_it_is_a_shortest_hang.Goals as goal

pub returns : goal.returns
returns c = IsFewest-sure
