use Rattle.std.proofs.Common.{◌≡◌, ◌+◌, ◌≤◌, ◌==◌, ℕ, Bool, true, false, cond, List, take, Option, Some, slice_index}
use Rattle.std.proofs.Common.{slice_index_or, sym, ap, subst, ◌∙◌, eq-eqb, arith}
use Rattle.std.specs.Prelude.{filter}
use Rattle.std.proofs.lemmas.Bool.{ne_eqb}
use Rattle.std.proofs.lemmas.Option.{same_Some, none-some}
use Rattle.wq_graph.specs.declared.arc.WaitArc.{WaitArc}
use Rattle.wq_plan.proofs.LeastOf.{IsLeastSoFar, least-more, least-less, least-other}
use Rattle.wq_plan.proofs.longest.fewest_doubts.Goals as goal
use Rattle.wq_plan.proofs.longest.fewest_doubts.Goals.{then-lane-from+in-Some, then-lane-from+in_default-2}
use Rattle.wq_plan.proofs.longest.fewest_doubts.Goals.{then-lane-from+in_default, else-lane-from}

pub loop-arc-preserved : goal.loop-arc-preserved
loop-arc-preserved c =
    let lane : List ℕ = c.args.lane.now in
    let arcs : List WaitArc = c.args.arcs.now in
    let k : ℕ = c.loop-arc.arc-index in
    let arc : WaitArc = c.arc-item.result in
    let over : WaitArc → ℕ = λ (a : WaitArc). slice_index c.args.doubts.now a.head + cond
    (slice_index_or c.args.unsure.now a.place false) 1 0 in
    let on : WaitArc → Bool = λ (a : WaitArc). slice_index lane a.head == c.args.on in
    let at : slice_index lane c.from.result ≡ slice_index lane arc.head = ap (slice_index lane) c.from.ensures in
    elim c.if-lane-from.branch [
      | then-lane-from+in-Some w ↦
          let passes : on arc ≡ true = eq-eqb (slice_index lane arc.head) c.args.on (sym at ∙ w.if-lane-from.true) in
          let so_far = subst (λ (o : Option ℕ). IsLeastSoFar over (filter on (take k arcs)) o) w.in-Some.is
          c.loop-arc.invariant in
          let le : w.in-Some.least ≤ over arc = omega (arith, w.if-least-doubts.true, w.doubts_by-doubts.ensures) in
          subst (λ (o : Option ℕ). IsLeastSoFar over (filter on (take (k + 1) arcs)) o) (sym w.fewest-is)
          (least-more over on arcs k arc c.loop-arc-test.true c.arc-item.is w.in-Some.least passes so_far le)
      | then-lane-from+in_default-2 w ↦
          let passes : on arc ≡ true = eq-eqb (slice_index lane arc.head) c.args.on (sym at ∙ w.if-lane-from.true) in
          let most : (least : ℕ) → c.loop-arc.fewest ≡ Some least → over arc ≤ least = λ least is.
          omega (
            arith,
            w.if-least-doubts.false,
            w.doubts_by-doubts.ensures,
            same_Some w.in-Some.least least (sym w.in-Some.is ∙ is),
          ) in
          subst (λ (o : Option ℕ). IsLeastSoFar over (filter on (take (k + 1) arcs)) o)
          (sym (w.fewest-is ∙ ap (λ (n : ℕ). Some n) w.doubts_by-doubts.ensures))
          (least-less over on arcs k arc c.loop-arc-test.true c.arc-item.is c.loop-arc.fewest passes
          c.loop-arc.invariant most)
      | then-lane-from+in_default w ↦
          let passes : on arc ≡ true = eq-eqb (slice_index lane arc.head) c.args.on (sym at ∙ w.if-lane-from.true) in
          let most : (least : ℕ) → c.loop-arc.fewest ≡ Some least → over arc ≤ least =
          λ least is. absurd (none-some least (sym w.in_default.is ∙ is)) in
          subst (λ (o : Option ℕ). IsLeastSoFar over (filter on (take (k + 1) arcs)) o)
          (sym (w.fewest-is ∙ ap (λ (n : ℕ). Some n) w.doubts_by-doubts.ensures))
          (least-less over on arcs k arc c.loop-arc-test.true c.arc-item.is c.loop-arc.fewest passes
          c.loop-arc.invariant most)
      | else-lane-from w ↦
          let fails : on arc ≡ false = ne_eqb (slice_index lane arc.head) c.args.on
          (λ e. w.if-lane-from.false (at ∙ e)) in
          subst (λ (o : Option ℕ). IsLeastSoFar over (filter on (take (k + 1) arcs)) o) (sym w.fewest-is)
          (least-other over on arcs k arc c.loop-arc-test.true c.arc-item.is c.loop-arc.fewest fails
          c.loop-arc.invariant)
    ]
