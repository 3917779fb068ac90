use Rattle.wq_items.proofs.Circles.{Circle-begins, Circle-no_rank}
use Rattle.wq_items.proofs.chain_laws.circle_has_no_rank.Goals as goal

pub returns-clause-lengths : goal.returns-clause-lengths
returns-clause-lengths g c = λ circle. Circle-begins g.R.Relation.waits circle

pub returns-clause-ranks : goal.returns-clause-ranks
returns-clause-ranks g c = λ circle. Circle-no_rank g.R.Relation.waits circle
