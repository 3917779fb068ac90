use Rattle.std.proofs.Common.{length, sym, ap, ◌∙◌, arith}
use Rattle.std.proofs.lemmas.Result.{IfOk-weaker}
use Rattle.wq_groups.specs.DeclaredGroups.{declared_waits}
use Rattle.wq_repair.specs.Marks.{Marks}
use Rattle.wq_repair.specs.Settled.{Settled}
use Rattle.wq_repair.specs.Ready.{Scope, IsButNot}
use Rattle.wq_repair.proofs.RepairedBy.{Marks-but_not, IsTried-as, can-as, placed-as, hosted-as}
use Rattle.wq_repair.proofs.RepairedBy.{stays_long-by, ranks_long-by, CanBePlaced-by, IsMinimal-by}
use Rattle.wq_repair.proofs.repairing.repaired_from.Goals as goal

pub tried_groups-requires-clause-movable : goal.tried_groups-requires-clause-movable
tried_groups-requires-clause-movable g c =
    c.requires.1.scope.are_movable.one_each ∙ sym c.requires.1.scope.assignment.one_each

pub tried_groups-requires-clause-given : goal.tried_groups-requires-clause-given
tried_groups-requires-clause-given g c = c.requires.1.scope.are_given.one_each

pub tried_groups-requires-clause-few : goal.tried_groups-requires-clause-few
tried_groups-requires-clause-few g c =
    omega (arith, c.requires.1.scope.are_movable.one_each, c.workqueues_of-few.ensures.few)

pub settled-requires-clause-ready : goal.settled-requires-clause-ready
settled-requires-clause-ready g c = c.requires

pub settled-requires-clause-tried : goal.settled-requires-clause-tried
settled-requires-clause-tried g c = IsTried-as c.args.old.now c.args.scope.now c.as_slice.ensures.value
    c.requires.1.scope.are_movable.one_each c.in_ok-tried.ensures

pub place-requires-clause-given : goal.place-requires-clause-given
place-requires-clause-given g c = ap length (c.as_slice-4.ensures.value ∙ ap (λ (x : Scope). x.given) c.scope.view_is)
    ∙ c.requires.1.scope.are_given.one_each

pub place-requires-clause-stays : goal.place-requires-clause-stays
place-requires-clause-stays g c =
    ap length (c.as_slice-5.ensures.value ∙ ap (λ (x : Settled). x.stays) c.all.view_is)
    ∙ stays_long-by c.in_ok-all.ensures
    ∙ sym c.requires.1.scope.assignment.one_each

pub place-requires-clause-leaves : goal.place-requires-clause-leaves
place-requires-clause-leaves g c =
    ap length c.as_slice-6.ensures.value ∙ c.in_ok-leaves.ensures.one_each
    ∙ ap length (c.as_slice-2.ensures.value ∙ ap (λ (x : Scope). x.movable) c.scope.view_is)
    ∙ c.requires.1.scope.are_movable.one_each ∙ sym c.requires.1.scope.assignment.one_each

pub place-requires-clause-one_each : goal.place-requires-clause-one_each
place-requires-clause-one_each g c =
    ap length (c.as_slice-7.ensures.value ∙ ap (λ (x : Settled). x.ranks) c.all.view_is)
    ∙ ranks_long-by c.in_ok-all.ensures
    ∙ sym c.requires.1.scope.assignment.one_each

pub place-requires-clause-few : goal.place-requires-clause-few
place-requires-clause-few g c = omega (
  arith,
  ap length c.as_slice-6.ensures.value,
  c.in_ok-leaves.ensures.one_each,
  ap length (c.as_slice-2.ensures.value ∙ ap (λ (x : Scope). x.movable) c.scope.view_is),
  c.requires.1.scope.are_movable.one_each,
  c.workqueues_of-few.ensures.few,
)

pub place-requires-clause-ranks_few : goal.place-requires-clause-ranks_few
place-requires-clause-ranks_few g c = omega (arith, c.from.ensures)

pub place-requires-clause-movable : goal.place-requires-clause-movable
place-requires-clause-movable g c = ap length
    (c.as_slice-8.ensures.value ∙ ap (λ (x : Scope). x.movable) c.scope.view_is)
    ∙ c.requires.1.scope.are_movable.one_each ∙ sym c.requires.1.scope.assignment.one_each

pub place-requires-clause-can : goal.place-requires-clause-can
place-requires-clause-can g c =
    let d = declared_waits c.args.start.now.declared in
    let s = c.args.scope.now in
    let ready = c.requires.1 in
    let all = c.in_ok-all.all in
    let leaves = c.in_ok-leaves.leaves.items in
    let are_tried = IsTried-as c.args.old.now c.args.scope.now c.as_slice.ensures.value ready.scope.are_movable.one_each
    c.in_ok-tried.ensures in
    let are_leaving : Marks (IsButNot s.movable all.stays) d.groups leaves =
    Marks-but_not s.movable all.stays c.as_slice-2.result.now c.as_slice-3.result.now leaves d.groups
    (c.as_slice-2.ensures.value ∙ ap (λ (x : Scope). x.movable) c.scope.view_is)
    (c.as_slice-3.ensures.value ∙ ap (λ (x : Settled). x.stays) c.all.view_is) ready.scope.are_movable.one_each
    c.in_ok-leaves.ensures in
    can-as (c.as_slice-4.ensures.value ∙ ap (λ (x : Scope). x.given) c.scope.view_is)
    (c.as_slice-5.ensures.value ∙ ap (λ (x : Settled). x.stays) c.all.view_is) c.as_slice-6.ensures.value
    (c.as_slice-7.ensures.value ∙ ap (λ (x : Settled). x.ranks) c.all.view_is)
    (CanBePlaced-by c.workqueues_of-few.ensures.declaration ready are_tried c.in_ok-all.ensures are_leaving
    c.from.result c.from.ensures)

pub returns : goal.returns
returns g c =
    IfOk-weaker c.place.result _ _ (λ new both names is.
    let d = declared_waits c.args.start.now.declared in
    let s = c.args.scope.now in
    let ready = is in
    let all = c.in_ok-all.all in
    let leaves = c.in_ok-leaves.leaves.items in
    let are_tried = IsTried-as c.args.old.now c.args.scope.now c.as_slice.ensures.value ready.scope.are_movable.one_each
    c.in_ok-tried.ensures in
    let are_leaving : Marks (IsButNot s.movable all.stays) d.groups leaves =
    Marks-but_not s.movable all.stays c.as_slice-2.result.now c.as_slice-3.result.now leaves d.groups
    (c.as_slice-2.ensures.value ∙ ap (λ (x : Scope). x.movable) c.scope.view_is)
    (c.as_slice-3.ensures.value ∙ ap (λ (x : Settled). x.stays) c.all.view_is) ready.scope.are_movable.one_each
    c.in_ok-leaves.ensures in
    IsMinimal-by c.workqueues_of-few.ensures.declaration is are_tried c.in_ok-all.ensures are_leaving new
    (placed-as (c.as_slice-4.ensures.value ∙ ap (λ (x : Scope). x.given) c.scope.view_is)
    (c.as_slice-5.ensures.value ∙ ap (λ (x : Settled). x.stays) c.all.view_is) c.as_slice-6.ensures.value
    (c.as_slice-7.ensures.value ∙ ap (λ (x : Settled). x.ranks) c.all.view_is) both.0)
    (hosted-as c.args.old.now new (c.as_slice-8.ensures.value ∙ ap (λ (x : Scope). x.movable) c.scope.view_is)
    c.as_slice-6.ensures.value both.1)) c.place.ensures
