use Rattle.wq_repair.proofs.Joining.{number_joined, falls-joined}
use Rattle.wq_repair.proofs.laws.joining_vertices_that_lead_to_neither_makes_no_circle.Goals as goal

pub returns : goal.returns
returns g c = λ number bound u v beyond falls below not_u not_v from_u from_v on. (
  number_joined beyond number bound v,
  falls-joined g.R.Relation.waits number bound falls below beyond u v not_u not_v from_u from_v on,
)
