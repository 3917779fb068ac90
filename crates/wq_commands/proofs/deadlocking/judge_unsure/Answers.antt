use Rattle.std.proofs.Common.{◌≡◌, ◌<◌, ◌≤◌, ℕ, List, length, sym, ap, ap₂, subst, ◌∙◌, arith}
use Rattle.std.specs.List.{All}
use Rattle.wq_items.specs.Table.{Table}
use Rattle.wq_groups.specs.DeclaredGroups.{declared_waits, reading_with_names}
use Rattle.wq_core.specs.declared.step.Step.{Step}
use Rattle.wq_core.specs.Deadlock.{IsSafe}
use Rattle.wq_core.specs.Readings.{reading}
use Rattle.wq_core.specs.Workqueues.{wiring_of}
use Rattle.wq_deadlock.specs.Judging.{IsHang}
use Rattle.wq_cert.specs.Part.{reading_text}
use Rattle.wq_cert.specs.RunText.{step_item}
use Rattle.wq_hang.specs.Answer.{IsHangOf}
use Rattle.wq_hang.specs.Walk.{needs}
use Rattle.wq_hang.proofs.NeededPlaces.{needs_few}
use Rattle.wq_commands.proofs.NamedSteps.{length-hang, step_item-hang}
use Rattle.wq_commands.proofs.ReadingLemmas.{IsSound-reading, not_safe-reading}
use Rattle.wq_commands.proofs.deadlocking.judge_unsure.Goals as goal

pub deadlock_of_reading-requires : goal.deadlock_of_reading-requires
deadlock_of_reading-requires g c = λ safe.
    let s = c.args.assigned.now.declared in
    let ws = c.args.assigned.now.workqueues in
    let hang : IsHangOf (declared_waits s) ws c.in-Hang.hops.items c.in-Hang.field-1.items =
    rw c.in-Hang.is at c.in_ok-hang.ensures.answer in
    let kept_is : c.as_slice-in-Hang.result.now ≡ needs c.in-Hang.hops.items =
    c.as_slice-in-Hang.ensures.value ∙ c.in_ok-kept-in-Hang.ensures ∙ ap needs c.as_slice.ensures.value in
    not_safe-reading s ws c.in-Hang.hops.items c.in-Hang.field-1.items hang
    (subst (λ (l : List ℕ). IsSafe (reading (wiring_of (declared_waits s) ws) l)) kept_is safe)

pub reading_text-requires-clause-few_places : goal.reading_text-requires-clause-few_places
reading_text-requires-clause-few_places g c =
    let kept_is : c.as_slice-in-Hang-2.result.now ≡ needs c.in-Hang.hops.items =
    c.as_slice-in-Hang-2.ensures.value ∙ c.in_ok-kept-in-Hang.ensures ∙ ap needs c.as_slice.ensures.value in
    omega (arith, needs_few c.in-Hang.hops.items, ap (λ (l : List ℕ). length l) kept_is)

pub reading_text-requires-clause-few : goal.reading_text-requires-clause-few
reading_text-requires-clause-few g c =
    let s = c.args.assigned.now.declared in
    let ws = c.args.assigned.now.workqueues in
    let kept = c.as_slice-in-Hang.result.now in
    let steps = c.in_ok-steps-in-Hang.steps.items in
    let own = IsSound-reading s kept c.table.ensures.assigned.declared in
    let deadlocks = c.in_ok-steps-in-Hang.ensures.deadlocks in
    let few : length steps ≤ 45056 =
    length-hang (reading_with_names s kept) own ws c.table.ensures.assigned.assignment steps deadlocks in
    omega (arith, few, ap (λ (l : List Step). length l) c.as_slice-in-Hang-3.ensures.value)

pub reading_text-requires-clause-items : goal.reading_text-requires-clause-items
reading_text-requires-clause-items g c =
    let s = c.args.assigned.now.declared in
    let ws = c.args.assigned.now.workqueues in
    let kept = c.as_slice-in-Hang.result.now in
    let steps = c.in_ok-steps-in-Hang.steps.items in
    let own = IsSound-reading s kept c.table.ensures.assigned.declared in
    let deadlocks = c.in_ok-steps-in-Hang.ensures.deadlocks in
    let named : All (λ (step : Step). step_item step < length s.table.names) steps =
    step_item-hang (reading_with_names s kept) own ws c.table.ensures.assigned.assignment steps deadlocks in
    subst (λ (t : Table). All (λ (step : Step). step_item step < length t.names) c.as_slice-in-Hang-3.result.now)
    (sym c.table.ensures.is)
    (subst (λ (l : List Step). All (λ (step : Step). step_item step < length s.table.names) l)
    (sym c.as_slice-in-Hang-3.ensures.value) named)

pub returns : goal.returns
returns g c =
    let s = c.args.assigned.now.declared in
    let ws = c.args.assigned.now.workqueues in
    let hang : IsHangOf (declared_waits s) ws c.in-Hang.hops.items c.in-Hang.field-1.items =
    rw c.in-Hang.is at c.in_ok-hang.ensures.answer in
    let kept_is : c.as_slice-in-Hang.result.now ≡ needs c.in-Hang.hops.items =
    c.as_slice-in-Hang.ensures.value ∙ c.in_ok-kept-in-Hang.ensures ∙ ap needs c.as_slice.ensures.value in
    let hops = c.in-Hang.hops.items in
    let steps = c.in_ok-steps-in-Hang.steps.items in
    let places : c.as_slice-in-Hang-2.result.now ≡ needs hops =
    c.as_slice-in-Hang-2.ensures.value ∙ c.in_ok-kept-in-Hang.ensures ∙ ap needs c.as_slice.ensures.value in
    let own : IsHang (declared_waits (reading_with_names s (needs hops))) ws steps =
    subst (λ (l : List ℕ). IsHang (declared_waits (reading_with_names s l)) ws steps) kept_is
    c.in_ok-steps-in-Hang.ensures in
    let text : c.in_ok-text-in-Hang.text.items ≡ reading_text s.table.names s.table.waits (needs hops) steps =
    c.in_ok-text-in-Hang.ensures
    ∙ ap (λ (t : Table). reading_text t.names t.waits c.as_slice-in-Hang-2.result.now c.as_slice-in-Hang-3.result.now)
    c.table.ensures.is
    ∙ ap₂ (λ (l : List ℕ) (r : List Step). reading_text s.table.names s.table.waits l r) places
    c.as_slice-in-Hang-3.ensures.value in
    (c.requires, (c.in-Hang.field-1.items, hang, steps, own, text))
