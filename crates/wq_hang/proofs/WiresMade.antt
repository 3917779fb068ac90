-- Items on lanes are as their groups are.
use Rattle.std.proofs.Common.{◌≡◌, ℕ, List, ap, ◌∙◌}
use Rattle.wq_groups.specs.Assignment.{Assignment, item_lanes}
use Rattle.wq_groups.specs.DeclaredGroups.{declared_waits}
use Rattle.wq_groups.specs.Partition.{Partition}
use Rattle.wq_core.specs.Workqueues.{wiring_of}
use Rattle.wq_core.specs.Assigned.{Assigned}
use Rattle.wq_hang.specs.Wires.{wires}

pub wires-same : (a b : Assigned) (assignment : Assignment) (partition : Partition) (lanes : List ℕ) → a ≡ b
    → assignment ≡ a.workqueues.assignment → partition ≡ a.declared.partition
    → lanes ≡ item_lanes assignment partition.group_of
    → wires a lanes ≡ wiring_of (declared_waits b.declared) b.workqueues
wires-same a b assignment partition lanes same of groups is =
    ap (wires a)
    (is ∙ ap (λ (x : Assignment). item_lanes x partition.group_of) of
    ∙ ap (λ (p : Partition). item_lanes a.workqueues.assignment p.group_of) groups)
    ∙ ap (λ (x : Assigned). wiring_of (declared_waits x.declared) x.workqueues) same
