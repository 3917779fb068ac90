use Rattle.std.proofs.Common.{◌≡◌, ℕ, ◌≤◌, List, length, ap, ◌∙◌, arith}
use Rattle.wq_hang.specs.Walk.{needs}
use Rattle.wq_hang_command.proofs.HangLemmas.{few-needs, length-shortest, no_help-shortest, step_item-shortest}
use Rattle.wq_hang_command.proofs.hanging.hang_text.Goals as goal

pub reading_text-requires-clause-few_places : goal.reading_text-requires-clause-few_places
reading_text-requires-clause-few_places g c =
    let a = c.args.assigned.now in
    let is = c.table.ensures.assigned in
    let same : c.as_slice.result.now ≡ needs c.args.hops.now = c.as_slice.ensures.value ∙ c.in_ok-kept.ensures in
    let few : length (needs c.args.hops.now) ≤ 16384 = few-needs a.declared is.declared a.workqueues is.assignment
    c.args.hops.now c.args.steps.now c.requires in
    omega (arith, few, ap (λ (l : List ℕ). length l) same)

pub reading_text-requires-clause-few : goal.reading_text-requires-clause-few
reading_text-requires-clause-few g c =
    let a = c.args.assigned.now in
    let is = c.table.ensures.assigned in
    let few : length c.args.steps.now ≤ 45056 = length-shortest a.declared is.declared a.workqueues is.assignment
    c.args.hops.now c.args.steps.now c.requires in
    omega (arith, few)

pub reading_text-requires-clause-items : goal.reading_text-requires-clause-items
reading_text-requires-clause-items g c =
    let a = c.args.assigned.now in
    let is = c.table.ensures.assigned in
    rw c.table.ensures.is
    (step_item-shortest a.declared is.declared a.workqueues is.assignment c.args.hops.now c.args.steps.now c.requires)

pub reading_text-requires-clause-no_help : goal.reading_text-requires-clause-no_help
reading_text-requires-clause-no_help g c =
    let a = c.args.assigned.now in
    let is = c.table.ensures.assigned in
    no_help-shortest a.declared is.declared a.workqueues is.assignment c.args.hops.now c.args.steps.now c.requires
