use Rattle.std.proofs.Common.{◌≡◌, ℕ, Bool, List, length, map, sym, ap, subst, ◌∙◌}
use Rattle.std.specs.List.{range_with_len}
use Rattle.std.proofs.lemmas.List.FromFn.{length-map-range_with_len}
use Rattle.wq_items.specs.Table.{Table}
use Rattle.wq_groups.specs.Assignment.{IsAssignment}
use Rattle.wq_groups.specs.Declaration.{Declaration, IsDeclaration, declaration_of}
use Rattle.wq_groups.specs.DeclaredGroups.{declared_waits}
use Rattle.wq_groups.specs.Partition.{Partition}
use Rattle.wq_groups.proofs.Declarations.{IsDeclaration-of}
use Rattle.wq_cert.specs.AroundReading.{AroundPlan}
use Rattle.wq_checker.specs.Around.{place_in}
use Rattle.wq_checker.proofs.AroundFalling.{FindsStaying, FindsNotFalling-items}
use Rattle.wq_checker.proofs.checking_around.first_staying.Goals as goal

pub first_not_falling-found-requires : goal.first_not_falling-found-requires
first_not_falling-found-requires g c =
    let sound = c.table-table.ensures.assigned.declared in
    record {
      grouped = ap (λ (p : Partition). length p.group_of) c.groups-groups.ensures.is ∙ sound.one_group_each
          ∙ sym (ap (λ (t : Table). length t.names) c.table-table.ensures.is);
      assigned = c.requires.assigned ∙ sym (ap (λ (p : Partition). p.groups) c.groups-groups.ensures.is);
      places = ap (λ (l : List ℕ). length l) (c.as_slice.ensures.value ∙ c.in_ok-places.ensures)
          ∙ length-map-range_with_len (place_in c.args.order.now) 0 c.lanes.result ∙ c.lanes.ensures.lanes;
    }

pub returns : goal.returns
returns g c n arcs =
    let declared = c.args.start.now.declared in
    let d = declared_waits declared in
    let sound = c.table-table.ensures.assigned.declared in
    let is : IsDeclaration d = IsDeclaration-of declared.table declared.partition sound.table sound.partition
    sound.one_group_each in
    let plan : AroundPlan =
    record { assignment = c.args.assignment.now; order = c.args.order.now; length = n; arcs = arcs } in
    let assignment : IsAssignment d.groups plan.assignment =
    record { one_each = c.requires.assigned; within = c.lanes.ensures.within } in
    let places = c.as_slice.result.now in
    let found = c.first_not_falling-found.result in
    let at : places ≡ map (place_in plan.order) (range_with_len 0 plan.assignment.lanes) =
    c.as_slice.ensures.value ∙ c.in_ok-places.ensures
    ∙ ap (λ (lanes : ℕ). map (place_in plan.order) (range_with_len 0 lanes)) c.lanes.ensures.lanes in
    let same : declaration_of c.table-table.result.now c.groups-groups.result.now ≡ d =
    ap (λ (t : Table). declaration_of t c.groups-groups.result.now) c.table-table.ensures.is
    ∙ ap (λ (p : Partition). declaration_of declared.table p) c.groups-groups.ensures.is in
    let here : FindsStaying (declaration_of c.table-table.result.now c.groups-groups.result.now) plan.assignment
    c.bare.result.now places found =
    (c.first_not_falling-found.ensures.some, c.first_not_falling-found.ensures.none) in
    let moved : FindsStaying d plan.assignment c.args.fixed.now.bare places found =
    subst (λ (bare : List Bool). FindsStaying d plan.assignment bare places found) c.bare.ensures
    (subst (λ (e : Declaration). FindsStaying e plan.assignment c.bare.result.now places found) same here) in
    FindsNotFalling-items d is c.args.fixed.now plan assignment places at found moved
