use Rattle.wq_items.proofs.Chains.{IsRank-greatest}
use Rattle.wq_items.proofs.chain_laws.rank_is_greatest.Goals as goal

pub returns : goal.returns
returns g c = λ v r n rank begins. IsRank-greatest g.R.Relation.waits v r n rank begins
