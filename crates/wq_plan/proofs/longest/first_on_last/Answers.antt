use Rattle.std.proofs.Common.{◌≡◌, ◌+◌, ◌<◌, ◌≤◌, ◌==◌, ℕ, Bool, true, false, List, Option, Some, slice_index}
use Rattle.std.proofs.Common.{sym, subst, eq-eqb, arith}
use Rattle.std.specs.Prelude.{filter}
use Rattle.std.specs.List.{range_with_len}
use Rattle.std.proofs.lemmas.Bool.{ne_eqb}
use Rattle.wq_plan.proofs.LeastOf.{IsFirstSoFar, first-less, first-more, first-other}
use Rattle.wq_plan.proofs.longest.first_on_last.Goals as goal
use Rattle.wq_plan.proofs.longest.first_on_last.Goals.{then-from+then-doubts-vertex, else-from}
use Rattle.wq_plan.proofs.longest.first_on_last.Goals.{else-from-via-then-from+else-doubts-vertex}
use Rattle.wq_plan.proofs.longest.first_on_last.Goals.{else-from-via-else-from}

pub loop-vertex-preserved : goal.loop-vertex-preserved
loop-vertex-preserved c =
    let lane : List ℕ = c.args.lane.now in
    let doubts : List ℕ = c.args.doubts.now in
    let n : ℕ = c.loop-vertex.vertex in
    let f : ℕ → ℕ = slice_index doubts in
    let p : ℕ → Bool = λ (v : ℕ). slice_index lane v + 1 == c.args.lanes in
    let so_far = c.loop-vertex.invariant in
    elim c.if-from.branch [
      | then-from+then-doubts-vertex w ↦
          let on : slice_index lane n + 1 ≡ c.args.lanes =
          omega (arith, w.if-from.true, c.from.ensures, c.from-in-loop-vertex.ensures) in
          let passes : p n ≡ true = eq-eqb (slice_index lane n + 1) c.args.lanes on in
          let less : f n < c.loop-vertex.fewest = w.if-doubts-vertex.true in
          subst (λ (o : Option ℕ). IsFirstSoFar f 65535 (filter p (range_with_len 0 (n + 1))) o c.if-from.fewest)
          (sym w.first-is) (
          subst (λ (m : ℕ). IsFirstSoFar f 65535 (filter p (range_with_len 0 (n + 1))) (Some n) m) (sym w.fewest-is)
          (first-less f p 65535 n c.loop-vertex.first c.loop-vertex.fewest so_far passes less))
      | else-from w ↦
          subst (λ (o : Option ℕ). IsFirstSoFar f 65535 (filter p (range_with_len 0 (n + 1))) o c.if-from.fewest)
          (sym w.first-is) (
          subst (λ (m : ℕ). IsFirstSoFar f 65535 (filter p (range_with_len 0 (n + 1))) c.loop-vertex.first m)
          (sym w.fewest-is)
          (elim w.else-from.branch [
            | else-from-via-then-from+else-doubts-vertex v ↦
                let on : slice_index lane n + 1 ≡ c.args.lanes =
                omega (arith, v.if-from.true, c.from.ensures, c.from-in-loop-vertex.ensures) in
                let passes : p n ≡ true = eq-eqb (slice_index lane n + 1) c.args.lanes on in
                let le : c.loop-vertex.fewest ≤ f n = v.if-doubts-vertex.false in
                let few : f n < 4096 = c.requires.few n 0 (omega (arith, c.loop-vertex-test.true, c.requires.one_each))
                in
                first-more f p 65535 n c.loop-vertex.first c.loop-vertex.fewest so_far passes (omega arith) le
            | else-from-via-else-from v ↦
                let fails : p n ≡ false = ne_eqb (slice_index lane n + 1) c.args.lanes
                (λ e. v.if-from.false (omega (arith, e, c.from.ensures, c.from-in-loop-vertex.ensures))) in
                first-other f p 65535 n c.loop-vertex.first c.loop-vertex.fewest so_far fails
          ]))
    ]
