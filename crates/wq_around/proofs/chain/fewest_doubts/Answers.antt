use Rattle.std.proofs.Common.{◌≡◌, ◌+◌, ◌≤◌, ℕ, Bool, true, false, List, take, Option, Some, slice_index_or, sym, ap}
use Rattle.std.proofs.Common.{subst, ◌∙◌, arith}
use Rattle.std.specs.Prelude.{filter}
use Rattle.std.proofs.lemmas.Option.{same_Some, none-some}
use Rattle.wq_graph.specs.declared.arc.WaitArc.{WaitArc}
use Rattle.wq_plan.proofs.LeastOf.{IsLeastSoFar, least-more, least-less, least-other}
use Rattle.wq_around.specs.Down.{leads_on, doubts_by}
use Rattle.wq_around.proofs.chain.fewest_doubts.Goals as goal
use Rattle.wq_around.proofs.chain.fewest_doubts.Goals.{then-leads_on+in-Some, then-leads_on+in_default-2}
use Rattle.wq_around.proofs.chain.fewest_doubts.Goals.{then-leads_on+in_default, else-leads_on}

pub loop-arc-preserved : goal.loop-arc-preserved
loop-arc-preserved c =
    let arcs : List WaitArc = c.args.arcs.now in
    let k : ℕ = c.loop-arc.arc-index in
    let arc : WaitArc = c.arc-item.result in
    let over : WaitArc → ℕ = doubts_by (λ place. slice_index_or c.args.unsure.now place false) c.args.doubts.now in
    let on : WaitArc → Bool = leads_on c.args.heights.now c.args.new c.args.lane in
    elim c.if-leads_on.branch [
      | then-leads_on+in-Some w ↦
          let passes : on arc ≡ true = sym c.leads_on.ensures ∙ w.if-leads_on.true in
          let so_far = subst (λ (o : Option ℕ). IsLeastSoFar over (filter on (take k arcs)) o) w.in-Some.is
          c.loop-arc.invariant in
          let le : w.in-Some.least ≤ over arc = omega (arith, w.if-least-doubts.true, w.doubts_by-doubts.ensures) in
          subst (λ (o : Option ℕ). IsLeastSoFar over (filter on (take (k + 1) arcs)) o) (sym w.fewest-is)
          (least-more over on arcs k arc c.loop-arc-test.true c.arc-item.is w.in-Some.least passes so_far le)
      | then-leads_on+in_default-2 w ↦
          let passes : on arc ≡ true = sym c.leads_on.ensures ∙ w.if-leads_on.true in
          let most : (least : ℕ) → c.loop-arc.fewest ≡ Some least → over arc ≤ least = λ least is.
          omega (
            arith,
            w.if-least-doubts.false,
            w.doubts_by-doubts.ensures,
            same_Some w.in-Some.least least (sym w.in-Some.is ∙ is),
          ) in
          subst (λ (o : Option ℕ). IsLeastSoFar over (filter on (take (k + 1) arcs)) o)
          (sym (w.fewest-is ∙ ap (λ (n : ℕ). Some n) w.doubts_by-doubts.ensures))
          (least-less over on arcs k arc c.loop-arc-test.true c.arc-item.is c.loop-arc.fewest passes
          c.loop-arc.invariant most)
      | then-leads_on+in_default w ↦
          let passes : on arc ≡ true = sym c.leads_on.ensures ∙ w.if-leads_on.true in
          let most : (least : ℕ) → c.loop-arc.fewest ≡ Some least → over arc ≤ least =
          λ least is. absurd (none-some least (sym w.in_default.is ∙ is)) in
          subst (λ (o : Option ℕ). IsLeastSoFar over (filter on (take (k + 1) arcs)) o)
          (sym (w.fewest-is ∙ ap (λ (n : ℕ). Some n) w.doubts_by-doubts.ensures))
          (least-less over on arcs k arc c.loop-arc-test.true c.arc-item.is c.loop-arc.fewest passes
          c.loop-arc.invariant most)
      | else-leads_on w ↦
          let fails : on arc ≡ false = sym c.leads_on.ensures ∙ w.if-leads_on.false in
          subst (λ (o : Option ℕ). IsLeastSoFar over (filter on (take (k + 1) arcs)) o) (sym w.fewest-is)
          (least-other over on arcs k arc c.loop-arc-test.true c.arc-item.is c.loop-arc.fewest fails
          c.loop-arc.invariant)
    ]
