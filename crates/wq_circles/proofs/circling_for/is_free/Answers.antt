use Rattle.std.proofs.Common.{◌≡◌, ◌==◌, ℕ, List, true, length, map, not, sym, ap, ◌∙◌, arith}
use Rattle.std.proofs.lemmas.List.{length-map}
use Rattle.wq_graph.specs.declared.arc.WaitArc.{WaitArc}
use Rattle.wq_circles.proofs.HeldBetween.{is_free-components, is_free-none, is_free-waits}
use Rattle.wq_circles.proofs.circling_for.is_free.Goals as goal
use Rattle.wq_circles.proofs.circling_for.is_free.Goals.{else-is_empty-via-then-is_empty+else-is_empty-2}
use Rattle.wq_circles.proofs.circling_for.is_free.Goals.{else-is_empty-via-else-is_empty}

pub returns-then-is_empty-2 : goal.returns-then-is_empty-2
returns-then-is_empty-2 g c =
    let a = c.args.assigned.now in
    let held = c.args.held.now in
    let lists : List (List WaitArc) = map (λ v. v.items) held.components.items in
    let count : length lists ≡ held.components.len =
    omega (arith, length-map held.components.items (λ v. v.items), held.components.ok.0) in
    let none : (length lists == 0) ≡ true =
    ap (λ (n : ℕ). n == 0) count ∙ sym c.is_empty.ensures ∙ c.if-is_empty.true in
    let waits : length held.waits.items ≡ held.waits.len = omega (arith, held.waits.ok.0) in
    let nothing : (length held.waits.items == 0) ≡ true =
    ap (λ (n : ℕ). n == 0) waits ∙ sym c.is_empty-then-is_empty.ensures ∙ c.if-is_empty-2.true in
    ap not c.is_one_on_bare.ensures
    ∙ sym (is_free-none a.declared a.workqueues c.args.named.now lists held.waits.items none nothing)

pub returns : goal.returns
returns g c =
    let a = c.args.assigned.now in
    let named = c.args.named.now in
    let held = c.args.held.now in
    let lists : List (List WaitArc) = map (λ v. v.items) held.components.items in
    elim c.else-is_empty.branch [
      | else-is_empty-via-then-is_empty+else-is_empty-2 w ↦
          let waits : length held.waits.items ≡ held.waits.len = omega (arith, held.waits.ok.0) in
          sym (is_free-waits a.declared a.workqueues named lists held.waits.items
          (ap (λ (n : ℕ). n == 0) waits ∙ sym w.is_empty-then-is_empty.ensures ∙ w.if-is_empty-2.false))
      | else-is_empty-via-else-is_empty w ↦
          let count : length lists ≡ held.components.len =
          omega (arith, length-map held.components.items (λ v. v.items), held.components.ok.0) in
          sym (is_free-components a.declared a.workqueues named lists held.waits.items
          (ap (λ (n : ℕ). n == 0) count ∙ sym c.is_empty.ensures ∙ w.if-is_empty.false))
    ]
