-- Groups have a plan or a circle.
use Rattle.std.proofs.Common.{◌⊎◌, inl, inr, refl}
use Rattle.wq_items.specs.Chain.{HasCircle}
use Rattle.wq_groups.specs.Declaration.{Declaration, GroupWaits, IsDeclaration}
use Rattle.wq_groups.specs.Assignment.{Assignment}
use Rattle.wq_graph.specs.Graph.{group_graph}
use Rattle.wq_graph.proofs.Graphs.{IsGraph-group_graph}
use Rattle.wq_levels.proofs.Existence.{AreRanks-or_circle}
use Rattle.wq_plan.specs.Plan.{IsPlan, lanes_of}
use Rattle.wq_plan.proofs.Plans.{IsPlan-from_ranks, HasCircle-from_graph}

pub IsPlan-or_circle : (d : Declaration) → IsDeclaration d → ((a : Assignment) × IsPlan d a) ⊎ HasCircle (GroupWaits d) d.groups
IsPlan-or_circle d is = elim (AreRanks-or_circle (group_graph d) (IsGraph-group_graph d is)) [
  | inl ranks ↦ let a : Assignment = record { lanes = lanes_of ranks.0; lane_of_group = ranks.0 } in inl (a, IsPlan-from_ranks d is a ranks.1 refl)
  | inr circle ↦ inr (HasCircle-from_graph d is circle)
]
