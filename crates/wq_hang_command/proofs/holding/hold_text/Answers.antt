use Rattle.std.proofs.Common.{◌≡◌, ℕ, ◌≤◌, List, length, ap, ◌∙◌, arith}
use Rattle.std.proofs.lemmas.Result.{IfOk-weaker}
use Rattle.wq_items.specs.Table.{Table}
use Rattle.wq_cert.specs.Part.{reading_text}
use Rattle.wq_groups.specs.DeclaredGroups.{Declared}
use Rattle.wq_hang.specs.Walk.{needs}
use Rattle.wq_hang_command.proofs.HoldLemmas.{few-held, length-held, no_help-held, step_item-held}
use Rattle.wq_hang_command.proofs.holding.hold_text.Goals as goal

pub reading_text-requires-clause-few_places : goal.reading_text-requires-clause-few_places
reading_text-requires-clause-few_places g c =
    let a = c.args.assigned.now in
    let is = c.table.ensures.assigned in
    let h = c.requires in
    let same : c.as_slice.result.now ≡ needs c.args.hops.now = c.as_slice.ensures.value ∙ c.in_ok-kept.ensures in
    let few : length (needs c.args.hops.now) ≤ 16384 = few-held a.declared is.declared a.workqueues is.assignment
    h.0 h.1 c.args.hops.now c.args.steps.now h.2 in
    omega (arith, few, ap (λ (l : List ℕ). length l) same)

pub reading_text-requires-clause-few : goal.reading_text-requires-clause-few
reading_text-requires-clause-few g c =
    let a = c.args.assigned.now in
    let is = c.table.ensures.assigned in
    let h = c.requires in
    let few : length c.args.steps.now ≤ 45056 = length-held a.declared is.declared a.workqueues is.assignment
    h.0 h.1 c.args.hops.now c.args.steps.now h.2 in
    omega (arith, few)

pub reading_text-requires-clause-items : goal.reading_text-requires-clause-items
reading_text-requires-clause-items g c =
    let a = c.args.assigned.now in
    let is = c.table.ensures.assigned in
    let h = c.requires in
    rw c.table.ensures.is
    (step_item-held a.declared is.declared a.workqueues is.assignment h.0 h.1 c.args.hops.now c.args.steps.now h.2)

pub reading_text-requires-clause-no_help : goal.reading_text-requires-clause-no_help
reading_text-requires-clause-no_help g c =
    let a = c.args.assigned.now in
    let is = c.table.ensures.assigned in
    let h = c.requires in
    no_help-held a.declared is.declared a.workqueues is.assignment h.0 h.1 c.args.hops.now c.args.steps.now h.2

pub returns : goal.returns
returns g c =
    let s : Declared = c.args.assigned.now.declared in
    let steps = c.args.steps.now in
    let kept : c.as_slice.result.now ≡ needs c.args.hops.now = c.as_slice.ensures.value ∙ c.in_ok-kept.ensures in
    IfOk-weaker c.reading_text.result _ _ (λ text is.
    is ∙ ap (λ (t : Table). reading_text t.names t.waits c.as_slice.result.now steps) c.table.ensures.is
    ∙ ap (λ (l : List ℕ). reading_text s.table.names s.table.waits l steps) kept) c.reading_text.ensures
