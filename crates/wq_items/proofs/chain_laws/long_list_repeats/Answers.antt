use Rattle.wq_items.proofs.Pigeonhole.{repeats_from_length}
use Rattle.wq_items.proofs.chain_laws.long_list_repeats.Goals as goal

pub returns : goal.returns
returns c = λ n xs below long. repeats_from_length n xs below long
