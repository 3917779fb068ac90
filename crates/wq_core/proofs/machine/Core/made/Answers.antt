use Rattle.std.proofs.Common.{◌≡◌, ℕ, ◌<◌, List, length, map, ap, refl, ◌∙◌, arith}
use Rattle.std.specs.List.{range_with_len}
use Rattle.std.proofs.lemmas.List.FromFn.{length-map-range_with_len}
use Rattle.wq_groups.specs.Assignment.{IsAssignment, item_lanes}
use Rattle.wq_groups.specs.Declaration.{Declaration, IsDeclaration, declaration_of}
use Rattle.wq_groups.proofs.Declarations.{IsDeclaration-of}
use Rattle.wq_groups.proofs.Lanes.{item_lanes-within}
use Rattle.wq_core.specs.Building.{shape_of, idle_of_shape}
use Rattle.wq_core.proofs.Results.{OnErr-holds}
use Rattle.wq_core.proofs.Wirings.{lanes-some, All-below}
use Rattle.wq_core.proofs.FirstMachines.{machine_of-first, IsHeld-first}
use Rattle.wq_core.proofs.machine.Core.made.Goals as goal

pub returns-in_err-lane_of_item-clause-memory : goal.returns-in_err-lane_of_item-clause-memory
returns-in_err-lane_of_item-clause-memory g c =
    let groups = c.args.groups.now in
    let a = c.args.assignment.now in
    let some : 0 < length groups.group_of = c.in_err-lane_of_item.ensures.memory in
    OnErr-holds c.from_residual.result (lanes-some groups.group_of groups.groups a c.in_err-lane_of_item.ensures.partition.within (record { one_each = c.requires.assigned; within = c.lanes-lanes.ensures.within }) some)

pub returns-in_err-targets-clause-memory : goal.returns-in_err-targets-clause-memory
returns-in_err-targets-clause-memory g c =
    let groups = c.args.groups.now in
    let a = c.args.assignment.now in
    let some : 0 < length groups.group_of = omega (arith, c.in_err-targets.ensures.memory, c.requires.grouped) in
    OnErr-holds c.from_residual-in_err-targets.result (lanes-some groups.group_of groups.groups a c.in_ok-lane_of_item.ensures.partition.within (record { one_each = c.requires.assigned; within = c.lanes-lanes.ensures.within }) some)

pub returns-in_err-pending-clause-memory : goal.returns-in_err-pending-clause-memory
returns-in_err-pending-clause-memory g c =
    let groups = c.args.groups.now in
    let a = c.args.assignment.now in
    let some : 0 < length groups.group_of =
    omega (arith, c.in_err-pending.ensures.memory, c.len.ensures.len, c.requires.grouped) in
    OnErr-holds c.from_residual-in_err-pending.result (lanes-some groups.group_of groups.groups a c.in_ok-lane_of_item.ensures.partition.within (record { one_each = c.requires.assigned; within = c.lanes-lanes.ensures.within }) some)

pub lane_shapes-requires-clause-within : goal.lane_shapes-requires-clause-within
lane_shapes-requires-clause-within g c =
    let groups = c.args.groups.now in
    let a = c.args.assignment.now in
    let assignment : IsAssignment groups.groups a = record { one_each = c.requires.assigned; within = c.lanes-lanes.ensures.within } in
    let within = item_lanes-within groups.group_of groups.groups a c.in_ok-lane_of_item.ensures.partition.within assignment in
    All-below a.lanes a.lanes (item_lanes a groups.group_of) c.in_ok-lane_of_item.lane_of_item.items c.as_slice.result.now refl c.as_slice.ensures.value c.in_ok-lane_of_item.ensures.lanes within

pub returns-in_err-lanes-clause-memory : goal.returns-in_err-lanes-clause-memory
returns-in_err-lanes-clause-memory g c =
    let groups = c.args.groups.now in
    let a = c.args.assignment.now in
    let count : length c.in_ok-shapes.shapes.items ≡ a.lanes = ap length c.in_ok-shapes.ensures.shapes ∙ length-map-range_with_len (shape_of a groups c.as_slice.result.now) 0 a.lanes in
    OnErr-holds c.from_residual-in_err-lanes.result (omega (arith, c.in_err-lanes.ensures.memory, ap length c.as_slice-2.ensures.value, count))

pub invariant_of-result : goal.invariant_of-result
invariant_of-result g c =
    let table = c.args.table.now in
    let groups = c.args.groups.now in
    let a = c.args.assignment.now in
    let d : Declaration = declaration_of table groups in
    let declaration : IsDeclaration d = IsDeclaration-of table groups c.in_ok-targets.ensures.table c.in_ok-lane_of_item.ensures.partition c.requires.grouped in
    let assignment : IsAssignment d.groups a = record { one_each = c.requires.assigned; within = c.lanes-lanes.ensures.within } in
    let shaped = c.in_ok-shapes.ensures.shapes ∙ ap (λ (l : List ℕ). map (shape_of a groups l) (range_with_len 0 a.lanes)) c.as_slice.ensures.value in
    let idle = c.in_ok-lanes.ensures.lanes ∙ ap (map (idle_of_shape c.args.helpers)) c.as_slice-2.ensures.value in
    IsHeld-first d a c.in_ok-targets.targets c.in_ok-lane_of_item.lane_of_item.items c.args.bare.items c.args.helpers
    c.in_ok-shapes.shapes.items c.in_ok-lanes.lanes c.in_ok-targets.ensures.targets
    c.in_ok-lane_of_item.ensures.lanes shaped idle c.in_ok-pending.pending c.len.result declaration assignment
    (omega (arith, c.lanes-lanes.ensures.lanes, c.lanes-lanes.ensures.few)) c.requires.few
    c.in_ok-pending.ensures.numbers (omega (arith, c.len.ensures.len, c.in_ok-targets.ensures.table.one_list_each))

pub returns-clause-machine : goal.returns-clause-machine
returns-clause-machine g c =
    let groups = c.args.groups.now in
    let a = c.args.assignment.now in
    let d : Declaration = declaration_of c.args.table.now groups in
    let shaped = c.in_ok-shapes.ensures.shapes ∙ ap (λ (l : List ℕ). map (shape_of a groups l) (range_with_len 0 a.lanes)) c.as_slice.ensures.value in
    let idle = c.in_ok-lanes.ensures.lanes ∙ ap (map (idle_of_shape c.args.helpers)) c.as_slice-2.ensures.value in
    machine_of-first d a c.in_ok-targets.targets c.in_ok-lane_of_item.lane_of_item.items c.args.bare.items c.args.helpers c.in_ok-shapes.shapes.items c.in_ok-lanes.lanes c.in_ok-targets.ensures.targets c.in_ok-lane_of_item.ensures.lanes shaped idle
