use Rattle.std.proofs.Common.{◌≡◌, refl, sym, ap, subst, ◌∙◌}
use Rattle.wq_groups.specs.DeclaredGroups.{declared_waits}
use Rattle.wq_core.specs.Wiring.{IsWiring}
use Rattle.wq_core.specs.Workqueues.{Workqueues, wiring_of}
use Rattle.wq_hang.specs.Wires.{wires}
use Rattle.wq_hang.proofs.SomeLanes.{IsWiring-assigned}
use Rattle.wq_hang.proofs.WiresMade.{wires-same}
use Rattle.wq_hang.proofs.wires.Wires.new.Goals as goal

pub invariant_of-result : goal.invariant_of-result
invariant_of-result g c =
    let a = c.new-assigned.result in
    let lanes = c.in_ok-lane_of_item.lane_of_item.items in
    let same : wires a lanes ≡ wiring_of (declared_waits a.declared) a.workqueues =
    wires-same a a c.assignment.result.now c.groups.result.now lanes refl
    (c.assignment.ensures ∙ ap (λ (ws : Workqueues). ws.assignment) c.workqueues.ensures.is) c.groups.ensures.is
    c.in_ok-lane_of_item.ensures.lanes in
    subst IsWiring (sym same) (IsWiring-assigned a c.groups.ensures.assigned)

pub returns : goal.returns
returns g c =
    let a = c.new-assigned.result in
    let lanes = c.in_ok-lane_of_item.lane_of_item.items in
    wires-same a c.args.assigned.now c.assignment.result.now c.groups.result.now lanes
    (c.new-assigned.ensures ∙ c.assigned.view_is)
    (c.assignment.ensures ∙ ap (λ (ws : Workqueues). ws.assignment) c.workqueues.ensures.is) c.groups.ensures.is
    c.in_ok-lane_of_item.ensures.lanes
