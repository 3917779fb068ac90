use Rattle.std.proofs.Common.{◌≡◌, ◌+◌, ◌∙◌, Bool, List, true, length, set, sym, ap, subst, arith}
use Rattle.std.proofs.Math.ListN.{length-set}
use Rattle.wq_groups.specs.DeclaredGroups.{declared_waits}
use Rattle.wq_repair.specs.Settled.{Settled, IsSettled}
use Rattle.wq_repair.proofs.Settling.{IsSettled-ranked, IsSettled-circle}
use Rattle.wq_repair.proofs.plain.try_beside.Goals as goal

pub with_group-requires : goal.with_group-requires
with_group-requires g c =
    omega (
      arith,
      c.requires.group,
      c.requires.stays,
      ap length (c.as_slice.ensures.value ∙ ap (λ (x : Settled). x.stays) c.settled.view_is),
    )

pub ranks_if-requires-clause-stays : goal.ranks_if-requires-clause-stays
ranks_if-requires-clause-stays g c =
    ap length (c.as_slice-2.ensures.value ∙ c.in_ok-stays.ensures)
    ∙ length-set c.as_slice.result.now c.args.group true
    ∙ ap length (c.as_slice.ensures.value ∙ ap (λ (x : Settled). x.stays) c.settled.view_is) ∙ c.requires.stays

pub returns-in-Some-clause-settled : goal.returns-in-Some-clause-settled
returns-in-Some-clause-settled g c =
    let d = declared_waits c.args.start.now.declared in
    let s = c.args.settled.now in
    let more : c.as_slice-2.result.now ≡ set s.stays c.args.group true =
    c.as_slice-2.ensures.value ∙ c.in_ok-stays.ensures
    ∙ ap (λ (xs : List Bool). set xs c.args.group true)
    (c.as_slice.ensures.value ∙ ap (λ (x : Settled). x.stays) c.settled.view_is) in
    let found = rw c.in-Some.is at c.in_ok-ranks.ensures in
    λ graph fixed tried trial marked has is.
    subst (λ (xs : List Bool). IsSettled graph c.args.assignment.now fixed tried (c.args.group + 1)
    (record { stays = xs; ranks = c.in-Some.ranks.items }))
    (sym (sym c.as_slice-2.ensures.value ∙ more))
    (IsSettled-ranked d c.workqueues_of-few.ensures.declaration c.args.needed.now fixed tried graph trial
    c.args.assignment.now c.workqueues_of-few.ensures.few
    c.args.group c.requires.group marked s is c.in-Some.ranks.items
    (rw more at found))

pub returns-in-None-clause-settled : goal.returns-in-None-clause-settled
returns-in-None-clause-settled g c =
    let d = declared_waits c.args.start.now.declared in
    let s = c.args.settled.now in
    let more : c.as_slice-2.result.now ≡ set s.stays c.args.group true =
    c.as_slice-2.ensures.value ∙ c.in_ok-stays.ensures
    ∙ ap (λ (xs : List Bool). set xs c.args.group true)
    (c.as_slice.ensures.value ∙ ap (λ (x : Settled). x.stays) c.settled.view_is) in
    let found = rw c.in-None.is at c.in_ok-ranks.ensures in
    λ graph fixed tried trial marked has is.
    IsSettled-circle d c.workqueues_of-few.ensures.declaration c.args.needed.now fixed tried graph trial
    c.args.assignment.now c.workqueues_of-few.ensures.few
    c.args.group c.requires.group marked s is
    (rw more at found) has
