use Rattle.wq_items.proofs.Chains.{IsRank-unique}
use Rattle.wq_items.proofs.chain_laws.rank_is_unique.Goals as goal

pub returns : goal.returns
returns g c = λ v r s one other. IsRank-unique g.R.Relation.waits v r s one other
