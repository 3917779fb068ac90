use Rattle.std.proofs.Common.{◌≡◌, ℕ, ◌+◌, List, [], ◌∷◌, ◌++◌, take, Option, Some, None, sym, ap, ◌∙◌, arith}
use Rattle.std.specs.List.{count_by}
use Rattle.std.proofs.lemmas.List.{take_more}
use Rattle.wq_fixed.specs.Fixed.{has_none, start_lanes}
use Rattle.wq_fixed.proofs.StartLanes.{count_free, count_free-is, count_free-stays, count_free-free}
use Rattle.wq_fixed.proofs.StartLanes.{start_lanes-stays, start_lanes-free}
use Rattle.wq_fixed.proofs.starting.start_lanes.Goals as goal
use Rattle.wq_fixed.proofs.starting.start_lanes.Goals.{in-Some+in_ok-push-in-Some, in-None+in_ok-push-in-None}

pub loop-lane-preserved : goal.loop-lane-preserved
loop-lane-preserved g c =
    let first = c.args.first in
    let lanes = c.args.lane_of_group.now in
    let k = c.loop-lane.lane-index in
    let lane = c.lane-item.result in
    let so_far = take k lanes in
    let more : take (k + 1) lanes ≡ so_far ++ (lane ∷ []) =
    take_more lanes k lane c.loop-lane-test.true
    ∙ ap (λ (x : Option ℕ). so_far ++ (x ∷ [])) (sym c.lane-item.is) in
    elim c.match-lane.branch [
      | in-Some+in_ok-push-in-Some w ↦
          let whole : take (k + 1) lanes ≡ so_far ++ (Some w.in-Some.lane ∷ []) =
          more ∙ ap (λ (x : Option ℕ). so_far ++ (x ∷ [])) w.in-Some.is in (
            ap (λ v. v.items) w.lanes-is
                ∙ w.in_ok-push-in-Some.ensures.items
                ∙ ap (λ (l : List ℕ). l ++ (w.in-Some.lane ∷ [])) c.loop-lane.invariant.0
                ∙ sym (ap (start_lanes first) whole ∙ start_lanes-stays first so_far w.in-Some.lane),
            w.next-is
                ∙ c.loop-lane.invariant.1
                ∙ ap (λ (n : ℕ). first + n) (sym (count_free-is so_far))
                ∙ ap (λ (n : ℕ). first + n) (sym (count_free-stays so_far w.in-Some.lane))
                ∙ ap (λ (l : List (Option ℕ)). first + count_free l) (sym whole)
                ∙ ap (λ (n : ℕ). first + n) (count_free-is (take (k + 1) lanes)),
          )
      | in-None+in_ok-push-in-None w ↦
          let whole : take (k + 1) lanes ≡ so_far ++ (None ∷ []) =
          more ∙ ap (λ (x : Option ℕ). so_far ++ (x ∷ [])) w.in-None.is in
          let next : c.loop-lane.next ≡ first + count_free so_far =
          c.loop-lane.invariant.1 ∙ ap (λ (n : ℕ). first + n) (sym (count_free-is so_far)) in
          let count : count_free (take (k + 1) lanes) ≡ 1 + count_free so_far =
          ap count_free whole ∙ count_free-free so_far in (
            ap (λ v. v.items) w.lanes-is
                ∙ w.in_ok-push-in-None.ensures.items
                ∙ ap (λ (l : List ℕ). l ++ (w.new.result ∷ [])) c.loop-lane.invariant.0
                ∙ ap (λ (n : ℕ). start_lanes first so_far ++ (n ∷ [])) (w.new.ensures ∙ next)
                ∙ sym (ap (start_lanes first) whole ∙ start_lanes-free first so_far),
            (let e : c.match-lane.next ≡ first + count_free (take (k + 1) lanes) =
                omega (arith, w.next-is, next, count) in e)
                ∙ ap (λ (n : ℕ). first + n) (count_free-is (take (k + 1) lanes)),
          )
    ]
