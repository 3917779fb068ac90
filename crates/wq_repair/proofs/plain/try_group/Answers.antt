use Rattle.std.proofs.Common.{◌≡◌, ◌+◌, ◌∙◌, ℕ, Bool, List, true, length, set, refl, sym, ap, subst, arith}
use Rattle.std.specs.Prelude.{None, Some, slice_index_or}
use Rattle.std.proofs.lemmas.Option.{none-some}
use Rattle.std.proofs.lemmas.Result.{IfOk-weaker}
use Rattle.wq_groups.specs.Assignment.{group_lane}
use Rattle.wq_repair.specs.Settled.{Settled, AreHomes, IsHomeOf, IsSettled}
use Rattle.wq_repair.proofs.LaneReads.{lane-read}
use Rattle.wq_repair.proofs.Settling.{IsSettled-first}
use Rattle.wq_repair.proofs.plain.try_group.Goals as goal

pub homes_of-requires-clause-one_each : goal.homes_of-requires-clause-one_each
homes_of-requires-clause-one_each g c =
    ap length (c.as_slice.ensures.value ∙ ap (λ (x : Settled). x.stays) c.settled.view_is) ∙ c.requires.stays
    ∙ sym c.requires.assigned

pub homes_of-requires-clause-few : goal.homes_of-requires-clause-few
homes_of-requires-clause-few g c =
    omega (
      arith,
      ap length (c.as_slice.ensures.value ∙ ap (λ (x : Settled). x.stays) c.settled.view_is),
      c.requires.stays,
      c.workqueues_of-few.ensures.few,
    )

pub returns-clause-settled : goal.returns-clause-settled
returns-clause-settled g c =
    let a = c.args.assignment.now in
    let i = c.args.group in
    let s = c.args.settled.now in
    let homes = c.in_ok-homes.homes.items in
    let are : AreHomes a s.stays homes = subst (λ (xs : List Bool). AreHomes a xs homes)
    (c.as_slice.ensures.value ∙ ap (λ (x : Settled). x.stays) c.settled.view_is) c.in_ok-homes.ensures in
    let read : group_lane a i ≡ c.lane.result =
    lane-read a a i i c.lane.result refl refl c.lane.ensures in
    let lane : c.from.result ≡ group_lane a i = omega (arith, read, c.get-lane.ensures, c.from.ensures) in
    let at = sym (rw c.as_slice-2.ensures.value at c.home_of.ensures) in
    let none : slice_index_or homes (group_lane a i) None ≡ None =
    subst (λ (q : ℕ). slice_index_or homes q None ≡ None) lane (at ∙ c.in-None.is) in
    λ graph fixed tried trial marked is.
    subst (λ (x : Settled). IsSettled graph a fixed tried (i + 1)
    (record { stays = set x.stays c.from-in-None.result true; ranks = x.ranks })) (sym c.settled.view_is)
    (subst (λ (n : ℕ). IsSettled graph a fixed tried (i + 1) (record { stays = set s.stays n true; ranks = s.ranks }))
    (sym (c.from-in-None.ensures ∙ c.get.ensures))
    (IsSettled-first graph a fixed tried i s is (omega (arith, c.requires.group, trial.of.long)) marked
    (λ h stay same. (
    let home = are.all h stay in
    none-some home.0 (sym none ∙ ap (λ (q : ℕ). slice_index_or homes q None) (sym same) ∙ home.1)
    ))))

pub returns-in-Some-clause-settled : goal.returns-in-Some-clause-settled
returns-in-Some-clause-settled g c =
    let a = c.args.assignment.now in
    let i = c.args.group in
    let s = c.args.settled.now in
    let homes = c.in_ok-homes.homes.items in
    let are : AreHomes a s.stays homes = subst (λ (xs : List Bool). AreHomes a xs homes)
    (c.as_slice.ensures.value ∙ ap (λ (x : Settled). x.stays) c.settled.view_is) c.in_ok-homes.ensures in
    let read : group_lane a i ≡ c.lane.result =
    lane-read a a i i c.lane.result refl refl c.lane.ensures in
    let lane : c.from.result ≡ group_lane a i = omega (arith, read, c.get-lane.ensures, c.from.ensures) in
    let at = sym (rw c.as_slice-2.ensures.value at c.home_of.ensures) in
    let home : IsHomeOf homes (group_lane a i) c.in-Some.field-0 =
    subst (λ (q : ℕ). slice_index_or homes q None ≡ Some c.in-Some.field-0) lane (at ∙ c.in-Some.is) in
    let on = are.on (group_lane a i) c.in-Some.field-0 home in
    IfOk-weaker c.try_beside.result _ _ (λ done all graph fixed tried trial marked is.
    all graph fixed tried trial marked (record { group = c.in-Some.field-0; marked = on.0; beside = on.1 }) is)
    c.try_beside.ensures.settled
