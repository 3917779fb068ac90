use Rattle.wq_items.proofs.Circles.{no_circle_from_ranks}
use Rattle.wq_items.proofs.chain_laws.ranks_rule_out_circles.Goals as goal

pub returns : goal.returns
returns g c = λ n ranks. no_circle_from_ranks g.R.Relation.waits n ranks
