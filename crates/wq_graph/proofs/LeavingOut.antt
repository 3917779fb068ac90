-- Graphs without some of their vertices.
use Rattle.std.proofs.Common.{◌≡◌, ℕ, ◌<◌, ◌≤◌, ◌↔◌, inl, inr, Bool, true, false, not, List, [], ◌∷◌, length, map}
use Rattle.std.proofs.Common.{get_or, refl, sym, ap, subst, ◌∙◌, arith}
use Rattle.std.specs.Prelude.{Contains, filter, flat_map, if◌then◌else◌}
use Rattle.std.specs.List.{All, range_with_len}
use Rattle.std.specs.List.Sorted.{IsStrictlyIncreasing}
use Rattle.std.proofs.lemmas.Bool.{cases_lt, cond-true}
use Rattle.std.proofs.lemmas.List.{get_or_past, length-append}
use Rattle.std.proofs.lemmas.List.Elements.{All-map, All-filter, All-contains, All-contains_itself, filter_passes}
use Rattle.std.proofs.lemmas.List.Folds.{flat_map-map}
use Rattle.std.proofs.lemmas.List.FromFn.{length-map-range_with_len, get_or-map-range_with_len, fill_by_all}
use Rattle.std.proofs.lemmas.List.Kept.{AllPairs-filter, AllPairs-from_increasing}
use Rattle.std.proofs.lemmas.List.Sums.{length-filter, count_by-le-length}
use Rattle.wq_items.proofs.Lists.{Contains-filtered}
use Rattle.wq_graph.specs.declared.arc.WaitArc.{WaitArc}
use Rattle.wq_graph.specs.Graph.{arcs_at, HasArc, IsGraph, is_left_out, arcs_kept, arcs_without, without}
use Rattle.wq_graph.proofs.ListLemmas.{IsStrictlyIncreasing-map, AllPairs-from_map}

-- what passes a test and is in a list
Contains-unfiltered : {X : Type 0} (p : X → Bool) (xs : List X) (x : X) → Contains (filter p xs) x → Contains xs x × (p x ≡ true)
Contains-unfiltered {X} p xs x there = (
  All-contains (Contains xs) (filter p xs) x (All-filter p (Contains xs) xs (All-contains_itself xs)) there,
  All-contains (λ (y : X). p y ≡ true) (filter p xs) x (filter_passes p xs) there,
)

not_true : (b : Bool) → not b ≡ true → b ≡ false
not_true true is = let never : false ≡ true = is in absurd cc
not_true false is = refl

module _ (out : List Bool) where
  stays : WaitArc → Bool
  stays a = not (is_left_out out a.head)

  -- ---- the arcs of one vertex

  -- none if the vertex is left out, and else those that are kept
  abbrev kept_if : Bool → List WaitArc → List WaitArc
  kept_if left_out arcs = if left_out then [] else arcs_kept out arcs

  kept-none : (left_out : Bool) (arcs : List WaitArc) → arcs ≡ [] → kept_if left_out arcs ≡ []
  kept-none true arcs none = refl
  kept-none false arcs none = ap (arcs_kept out) none

  kept-shorter : (left_out : Bool) (arcs : List WaitArc) → length (kept_if left_out arcs) ≤ length arcs
  kept-shorter true arcs = omega arith
  kept-shorter false arcs =
      let p : WaitArc → Bool = λ (a : WaitArc). not (is_left_out out a.head) in
      omega (arith, length-filter p arcs, count_by-le-length p arcs)

  kept-where : (P : List WaitArc → Type 0) → P [] → (left_out : Bool) (arcs : List WaitArc) → P (arcs_kept out arcs) → P (kept_if left_out arcs)
  kept-where P none true arcs some = none
  kept-where P none false arcs some = some

  -- an arc that is kept is one of these, and neither of its vertices is left out
  kept-was : (left_out : Bool) (arcs : List WaitArc) (a : WaitArc) → Contains (kept_if left_out arcs) a → (left_out ≡ false) × (is_left_out out a.head ≡ false) × Contains arcs a
  kept-was true arcs a there = absurd (omega (arith, there.1))
  kept-was false arcs a there =
      let p : WaitArc → Bool = λ (b : WaitArc). not (is_left_out out b.head) in
      let was = Contains-unfiltered p arcs a there in
      (refl, not_true (is_left_out out a.head) was.1, was.0)

  was-kept : (left_out : Bool) (arcs : List WaitArc) (a : WaitArc) → left_out ≡ false → is_left_out out a.head ≡ false → Contains arcs a → Contains (kept_if left_out arcs) a
  was-kept true arcs a is head there = absurd cc
  was-kept false arcs a is head there = Contains-filtered (λ (b : WaitArc). not (is_left_out out b.head)) arcs a (ap not head) there

  kept-all : ((v : ℕ) → is_left_out out v ≡ false) → (arcs : List WaitArc) → arcs_kept out arcs ≡ arcs
  kept-all none [] = refl
  kept-all none (a ∷ arcs) =
      cond-true (not (is_left_out out a.head)) (a ∷ arcs_kept out arcs) (arcs_kept out arcs) (ap not (none a.head)) ∙ ap (λ (l : List WaitArc). a ∷ l) (kept-all none arcs)

  kept-rise : (arcs : List WaitArc) → IsStrictlyIncreasing (map (λ (a : WaitArc). a.place) arcs) → IsStrictlyIncreasing (map (λ (a : WaitArc). a.place) (arcs_kept out arcs))
  kept-rise arcs rise =
      let p : WaitArc → Bool = λ (a : WaitArc). not (is_left_out out a.head) in
      IsStrictlyIncreasing-map (λ (a : WaitArc). a.place) (filter p arcs) (record { src = 0; dst = 0; head = 0; place = 0 }) (
      AllPairs-filter (λ (a b : WaitArc). a.place < b.place) p arcs (
      AllPairs-from_map (λ (m n : ℕ). m < n) (λ (a : WaitArc). a.place) arcs (AllPairs-from_increasing (map (λ (a : WaitArc). a.place) arcs) rise)
      )
      )

  -- ---- all vertices

  module _ (graph : List (List WaitArc)) where
    pub length-without : length (without out graph) ≡ length graph
    length-without = length-map-range_with_len (arcs_without out graph) 0 (length graph)

    pub arcs_at-without : (v : ℕ) → arcs_at (without out graph) v ≡ arcs_without out graph v
    arcs_at-without v = elim (cases_lt v (length graph)) [
      | inl within ↦ get_or-map-range_with_len (arcs_without out graph) 0 (length graph) v v [] within (omega arith)
      | inr past ↦ (
          let none : arcs_at graph v ≡ [] = get_or_past graph v [] past in
          get_or_past (without out graph) v [] (omega (arith, past, length-without)) ∙ sym (kept-none (is_left_out out v) (arcs_at graph v) none)
          )
    ]

    pub Contains-without : (v : ℕ) (a : WaitArc) → Contains (arcs_at (without out graph) v) a → (is_left_out out v ≡ false) × (is_left_out out a.head ≡ false) × Contains (arcs_at graph v) a
    Contains-without v a there =
        kept-was (is_left_out out v) (arcs_at graph v) a (subst (λ (l : List WaitArc). Contains l a) (arcs_at-without v) there)

    pub HasArc-without : (v w : ℕ) → HasArc (without out graph) v w ↔ ((is_left_out out v ≡ false) × (is_left_out out w ≡ false) × HasArc graph v w)
    HasArc-without v w = (to, from)
      where
        to : HasArc (without out graph) v w → (is_left_out out v ≡ false) × (is_left_out out w ≡ false) × HasArc graph v w
        to (k, a, lt, at, head) =
            let was = Contains-without v a (k, lt, at) in
            (was.0, subst (λ (u : ℕ). is_left_out out u ≡ false) head was.1, (was.2.0, a, was.2.1, was.2.2, head))

        from : (is_left_out out v ≡ false) × (is_left_out out w ≡ false) × HasArc graph v w → HasArc (without out graph) v w
        from (tail_stays, head_stays, (k, a, lt, at, head)) =
            let kept = was-kept (is_left_out out v) (arcs_at graph v) a tail_stays (subst (λ (u : ℕ). is_left_out out u ≡ false) (sym head) head_stays) (k, lt, at) in
            let there = subst (λ (l : List WaitArc). Contains l a) (sym (arcs_at-without v)) kept in
            (there.0, a, there.1, there.2, head)

    -- what holds of the arcs of each vertex, of none, and of those that are kept
    All-without : (P : List WaitArc → Type 0) → P [] → ((arcs : List WaitArc) → P arcs → P (arcs_kept out arcs)) → All P graph → All P (without out graph)
    All-without P none kept all = All-map P (arcs_without out graph) (range_with_len 0 (length graph)) (λ k d within. of_vertex (get_or (range_with_len 0 (length graph)) k d))
      where
        of_vertex : (v : ℕ) → P (arcs_without out graph v)
        of_vertex v = kept-where P none (is_left_out out v) (arcs_at graph v) (kept (arcs_at graph v) (elim (cases_lt v (length graph)) [
          | inl within ↦ all v [] within
          | inr past ↦ subst P (sym (get_or_past graph v [] past)) none
        ]))

    pub IsGraph-without : IsGraph graph → IsGraph (without out graph)
    IsGraph-without is = record {
      few = omega (arith, length-without, is.few);
      heads =
          subst (λ (m : ℕ). All (λ (arcs : List WaitArc). All (λ (a : WaitArc). a.head < m) arcs) (without out graph)) (sym length-without) (
          All-without (λ (arcs : List WaitArc). All (λ (a : WaitArc). a.head < length graph) arcs) (λ k d within. absurd (omega (arith, within)))
          (λ arcs heads. All-filter (λ (a : WaitArc). not (is_left_out out a.head)) (λ (a : WaitArc). a.head < length graph) arcs heads) is.heads
          );
      places_rise =
          All-without (λ (arcs : List WaitArc). IsStrictlyIncreasing (map (λ (a : WaitArc). a.place) arcs)) (λ k within. absurd (omega (arith, within))) kept-rise is.places_rise;
    }

    -- no vertex is left out
    pub without-none : ((v : ℕ) → is_left_out out v ≡ false) → without out graph ≡ graph
    without-none none = sym (fill_by_all (arcs_without out graph) graph (length graph) [] refl (λ k lt. sym (all_kept (is_left_out out k) (arcs_at graph k) (none k))))
      where
        all_kept : (left_out : Bool) (arcs : List WaitArc) → left_out ≡ false → kept_if left_out arcs ≡ arcs
        all_kept true arcs is = absurd cc
        all_kept false arcs is = kept-all none arcs

    -- ---- there are no more arcs than before

    joined-shorter : (vertices : List ℕ) → length (flat_map (arcs_without out graph) vertices) ≤ length
        (flat_map (arcs_at graph) vertices)
    joined-shorter [] = omega arith
    joined-shorter (v ∷ vertices) =
        let f : ℕ → List WaitArc = arcs_without out graph in
        let g : ℕ → List WaitArc = arcs_at graph in
        omega (
          arith,
          length-append (f v) (flat_map f vertices),
          length-append (g v) (flat_map g vertices),
          kept-shorter (is_left_out out v) (arcs_at graph v),
          joined-shorter vertices,
        )

    pub few-without : length (flat_map (λ (l : List WaitArc). l) (without out graph)) ≤ length
        (flat_map (λ (l : List WaitArc). l) graph)
    few-without =
        let vertices : List ℕ = range_with_len 0 (length graph) in
        let before : length (flat_map (λ (l : List WaitArc). l) graph) ≡ length (flat_map (arcs_at graph) vertices) =
        ap length (ap (flat_map (λ (l : List WaitArc). l))
        (fill_by_all (arcs_at graph) graph (length graph) [] refl (λ k lt. refl))
        ∙ flat_map-map (λ (l : List WaitArc). l) (arcs_at graph) vertices) in
        let after : length (flat_map (λ (l : List WaitArc). l) (without out graph)) ≡ length
        (flat_map (arcs_without out graph) vertices) =
        ap length (flat_map-map (λ (l : List WaitArc). l) (arcs_without out graph) vertices) in
        omega (arith, before, after, joined-shorter vertices)
