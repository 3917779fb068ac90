-- Numbers for the vertices of a graph, found by their ranks from below: which are known so far.
use Rattle.std.proofs.Common.{◌≡◌, ◌≢◌, ℕ, ◌+◌, ◌<◌, ◌≤◌, ◌==◌, inl, inr, List, [], length, take, set}
use Rattle.std.proofs.Common.{slice_index, slice_index_or, sym, ap, subst, ◌∙◌, eq-eqb, arith}
use Rattle.std.specs.Prelude.{Contains}
use Rattle.std.specs.List.{range_with_len}
use Rattle.std.proofs.lemmas.Bool.{cases_eq, cases_lt}
use Rattle.std.proofs.lemmas.List.{take_all, take_more, length-set, get_or-set_same, get_or-set_other}
use Rattle.std.proofs.lemmas.List.Elements.{Contains-push_cases}
use Rattle.wq_buckets.specs.Places.{buckets_of, places_of}
use Rattle.wq_buckets.proofs.Picking.{places-at}
use Rattle.wq_items.proofs.Lists.{Contains-filtered, Contains-range_with_len}
use Rattle.wq_plan.specs.Plan.{lanes_of}
use Rattle.wq_plan.proofs.Lanes.{lanes_of-above}

-- P q n says that n is the number of q
module _ (P : ℕ → ℕ → Type 0) (ranks : List ℕ) where
  -- those of lower ranks are known, and those of these others
  pub record AreSoFar (rank : ℕ) (others now : List ℕ) : Type 0 where
    pub one_each : length now ≡ length ranks
    pub lower : (q : ℕ) → q < length ranks → slice_index ranks q < rank → P q (slice_index now q)
    pub done : (q : ℕ) → Contains others q → P q (slice_index now q)

  pub AreSoFar-none : (now : List ℕ) → length now ≡ length ranks → AreSoFar 0 [] now
  AreSoFar-none now same = record {
    one_each = same;
    lower = λ q within below. absurd (omega (arith, below));
    done = λ q there. absurd (omega (arith, there.1));
  }

  -- one more, as a loop takes them
  module _ (rank k : ℕ) (ps now : List ℕ) (known : AreSoFar rank (take k ps) now) (fits : k < length ps) where
    -- that is set
    pub AreSoFar-set : (n : ℕ) → slice_index ps k < length ranks → slice_index ranks (slice_index ps k) ≡ rank
        → P (slice_index ps k) n → AreSoFar rank (take (k + 1) ps) (set now (slice_index ps k) n)
    AreSoFar-set n within on is =
        let v : ℕ = slice_index ps k in
        let inside : v < length now = omega (arith, known.one_each, within) in
        let here : slice_index (set now v n) v ≡ n = get_or-set_same now v n 0 inside in
        let holds : P v (slice_index (set now v n) v) = subst (P v) (sym here) is in
        let other : (w : ℕ) → w ≢ v → slice_index (set now v n) w ≡ slice_index now w =
        λ w apart. get_or-set_other now v w n 0 apart in
        subst (λ (l : List ℕ). AreSoFar rank l (set now v n)) (sym (take_more ps k 0 fits)) (record {
          one_each = length-set now v n ∙ known.one_each;
          lower = λ q vertex below. subst (P q)
              (sym (other q (λ e. absurd (omega (arith, on, below, ap (slice_index ranks) e)))))
              (known.lower q vertex below);
          done = λ q there. elim (Contains-push_cases (take k ps) v q there) [
            | inl before ↦ elim (cases_eq q v) [
              | inl same ↦ subst (λ (u : ℕ). P u (slice_index (set now v n) u)) (sym same) holds
              | inr apart ↦ subst (P q) (sym (other q apart)) (known.done q before)
            ]
            | inr now_one ↦ subst (λ (u : ℕ). P u (slice_index (set now v n) u)) now_one holds
          ];
        })

    -- that is known already
    pub AreSoFar-kept : P (slice_index ps k) (slice_index now (slice_index ps k)) → AreSoFar rank (take (k + 1) ps) now
    AreSoFar-kept holds =
        subst (λ (l : List ℕ). AreSoFar rank l now) (sym (take_more ps k 0 fits)) (record {
          one_each = known.one_each;
          lower = known.lower;
          done = λ q there. elim (Contains-push_cases (take k ps) (slice_index ps k) q there) [
            | inl before ↦ known.done q before
            | inr now_one ↦ subst (λ (u : ℕ). P u (slice_index now u)) now_one holds
          ];
        })

  -- all of a rank
  pub AreSoFar-rank : (rank : ℕ) (now : List ℕ) → AreSoFar rank (places_of ranks rank) now → AreSoFar (rank + 1) [] now
  AreSoFar-rank rank now known = record {
    one_each = known.one_each;
    lower = λ q vertex below. elim (cases_lt (slice_index ranks q) rank) [
      | inl lower ↦ known.lower q vertex lower
      | inr here ↦
          known.done q (Contains-filtered (λ (p : ℕ). slice_index ranks p == rank) (range_with_len 0 (length ranks)) q
          (eq-eqb (slice_index ranks q) rank (omega (arith, below, here))) (Contains-range_with_len (length ranks) q
          vertex))
    ];
    done = λ q there. absurd (omega (arith, there.1));
  }

  -- all that a loop takes of a rank
  pub AreSoFar-taken : (rank k count : ℕ) (ps now : List ℕ) (buckets : List (List ℕ)) → rank < count
      → buckets ≡ buckets_of ranks count → ps ≡ slice_index_or buckets rank [] → length ps ≤ k
      → AreSoFar rank (take k ps) now → AreSoFar (rank + 1) [] now
  AreSoFar-taken rank k count ps now buckets below are own all known =
      let same : ps ≡ places_of ranks rank = own ∙ places-at ranks buckets count rank below are in
      AreSoFar-rank rank now (subst (λ (l : List ℕ). AreSoFar rank l now) (take_all k ps all ∙ same) known)

  -- all of them
  pub AreSoFar-all : (rank : ℕ) (now : List ℕ) → lanes_of ranks ≤ rank → AreSoFar rank [] now → (q : ℕ)
      → q < length ranks → P q (slice_index now q)
  AreSoFar-all rank now last known q vertex =
      known.lower q vertex (omega (arith, last, lanes_of-above ranks q 0 vertex))
