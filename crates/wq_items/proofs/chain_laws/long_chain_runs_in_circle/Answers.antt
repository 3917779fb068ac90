use Rattle.wq_items.proofs.Circles.{circle_from_length}
use Rattle.wq_items.proofs.chain_laws.long_chain_runs_in_circle.Goals as goal

pub returns : goal.returns
returns g c = λ n vs chain below long. circle_from_length g.R.Relation.waits n vs chain below long
