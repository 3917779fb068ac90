use Rattle.std.proofs.Common.{◌<◌, ℕ, List, length, sym, ap, subst, ◌∙◌, arith}
use Rattle.std.specs.List.{All}
use Rattle.std.proofs.lemmas.Result.{IfOk-weaker}
use Rattle.wq_core.specs.Workqueues.{Workqueues}
use Rattle.wq_repair.specs.Settled.{AreHomes, AreVertices}
use Rattle.wq_repair.proofs.Homes.{vertices-within}
use Rattle.wq_repair.proofs.plain.ranks_if.Goals as goal

pub vertices_of-requires-clause-homes : goal.vertices_of-requires-clause-homes
vertices_of-requires-clause-homes g c =
    subst (AreHomes c.args.assignment.now c.args.stays.now) (sym c.as_slice.ensures.value) c.in_ok-homes.ensures

pub vertices_as_lanes-requires-clause-one_each : goal.vertices_as_lanes-requires-clause-one_each
vertices_as_lanes-requires-clause-one_each g c =
    c.requires.needed ∙ sym c.requires.stays ∙ sym c.in_ok-vertices.ensures.one_each
    ∙ sym (ap length c.as_slice-2.ensures.value)

pub vertices_as_lanes-requires-clause-few : goal.vertices_as_lanes-requires-clause-few
vertices_as_lanes-requires-clause-few g c =
    omega (
      arith,
      ap length c.as_slice-2.ensures.value,
      c.in_ok-vertices.ensures.one_each,
      c.requires.stays,
      c.workqueues_of-few.ensures.few,
    )

pub vertices_as_lanes-requires-clause-within : goal.vertices_as_lanes-requires-clause-within
vertices_as_lanes-requires-clause-within g c =
    let homes = c.in_ok-homes.homes.items in
    let vertices = c.in_ok-vertices.vertices.items in
    let are : AreVertices c.args.assignment.now c.args.stays.now homes vertices = rw c.as_slice.ensures.value at
    c.in_ok-vertices.ensures in
    subst (λ (xs : List ℕ). All (λ (v : ℕ). v < length xs) xs) (sym c.as_slice-2.ensures.value)
    (subst (λ (n : ℕ). All (λ (v : ℕ). v < n) vertices) (sym are.one_each)
    (vertices-within c.args.assignment.now c.args.stays.now homes vertices c.in_ok-homes.ensures are))

pub with_workqueues-merged-requires : goal.with_workqueues-merged-requires
with_workqueues-merged-requires g c =
    ap (λ (ws : Workqueues). length ws.assignment.lane_of_group) c.in_ok-placed.ensures
    ∙ ap length c.as_slice-2.ensures.value ∙ c.in_ok-vertices.ensures.one_each ∙ c.requires.stays

pub returns : goal.returns
returns g c =
    let are : AreVertices c.args.assignment.now c.args.stays.now c.in_ok-homes.homes.items
    c.in_ok-vertices.vertices.items = rw c.as_slice.ensures.value at c.in_ok-vertices.ensures in
    IfOk-weaker c.ranks_by_group.result _ _ (λ r is. record {
      homes = c.in_ok-homes.homes.items;
      vertices = c.in_ok-vertices.vertices.items;
      are_homes = c.in_ok-homes.ensures;
      are_vertices = are;
      holds = is;
    }) (rw (c.with_workqueues-merged.ensures, c.in_ok-placed.ensures, c.as_slice-2.ensures.value) at
    c.ranks_by_group.ensures)
