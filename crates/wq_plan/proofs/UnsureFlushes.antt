-- The places of unsure flushes, item by item and flush by flush.
use Rattle.std.proofs.Common.{◌≡◌, ◌+◌, ◌<◌, ◌==◌, inl, inr, ℕ, Bool, true, false, cond, List, [], ◌∷◌, ◌++◌}
use Rattle.std.proofs.Common.{length, map, get_or, take, slice_index_or, sym, ap, ◌∙◌, arith}
use Rattle.std.specs.Prelude.{filter, IsPermutation}
use Rattle.std.specs.List.{All, range_with_len}
use Rattle.std.proofs.lemmas.Bool.{cases_lt, ne_eqb}
use Rattle.std.proofs.lemmas.List.{append-nil, append_assoc, map-append, take_more, get_or_past}
use Rattle.std.proofs.lemmas.List.Elements.{filter_more, All-nil, All-append, All-map, All-filter, All-contains}
use Rattle.std.proofs.lemmas.List.Elements.{Contains-get_or, Contains-append_left, Contains-append_right}
use Rattle.std.proofs.lemmas.List.FromFn.{length-map-range_with_len}
use Rattle.std.proofs.lemmas.List.Folds.{list_any_none}
use Rattle.std.proofs.lemmas.List.Sorted.{All-permutation}
use mathlib.Core.Path.{fun_ext}
use Rattle.wq_items.specs.declared.target.Target.{Target}
use Rattle.wq_items.specs.Table.{targets_of, flush_count, places}
use Rattle.wq_items.specs.Readings.{is_among, unsure_places}
use Rattle.wq_items.proofs.Lists.{range_with_len-below}
use Rattle.wq_items.proofs.ReadingLists.{marked-at}
use Rattle.wq_graph.proofs.ListLemmas.{Contains-map}

-- the places of the unsure ones of these flushes
abbrev pub unsure_of : List Target → List ℕ
unsure_of ts = map (λ (t : Target). t.place) (filter (λ (t : Target). t.unsure) ts)

-- with a flush more
abbrev place_of : Target → ℕ
place_of t = t.place

abbrev is_unsure : Target → Bool
is_unsure t = t.unsure

module _ (before : List ℕ) (ts : List Target) (k : ℕ) (t : Target) (within : k < length ts) (here : t ≡ get_or ts k t)
  where
    next : unsure_of (take (k + 1) ts) ≡ unsure_of (take k ts) ++ map place_of (cond t.unsure (t ∷ []) [])
    next =
        let so_far : List Target = filter is_unsure (take k ts) in
        ap (map place_of)
        (filter_more is_unsure ts k t within ∙ ap (λ (u : Target). so_far ++ cond u.unsure (u ∷ []) []) (sym here))
        ∙ map-append place_of so_far (cond t.unsure (t ∷ []) [])

    pub unsure_of-more : t.unsure ≡ true
        → before ++ unsure_of (take (k + 1) ts) ≡ (before ++ unsure_of (take k ts)) ++ t.place ∷ []
    unsure_of-more unsure =
        let more = next ∙ ap (λ (b : Bool). unsure_of (take k ts) ++ map place_of (cond b (t ∷ []) [])) unsure in
        ap (λ (l : List ℕ). before ++ l) more ∙ sym (append_assoc before (unsure_of (take k ts)) (t.place ∷ []))

    pub unsure_of-other : t.unsure ≡ false → before ++ unsure_of (take (k + 1) ts) ≡ before ++ unsure_of (take k ts)
    unsure_of-other sure =
        let same = next ∙ ap (λ (b : Bool). unsure_of (take k ts) ++ map place_of (cond b (t ∷ []) [])) sure in
        ap (λ (l : List ℕ). before ++ l) (same ∙ append-nil (unsure_of (take k ts)))

-- a place that isn't among these
below-unsure : (n : ℕ) (waits : List (List Target)) → All (λ p. p < n) (places waits)
    → All (λ p. p < n) (unsure_places waits)
below-unsure n [] below = All-nil (λ p. p < n)
below-unsure n (w ∷ waits) below =
    let own : All (λ (t : Target). t.place < n) w = λ k d within.
    All-contains (λ p. p < n) (places (w ∷ waits)) (place_of (get_or w k d)) below
    (Contains-append_left (map place_of w) (places waits) (place_of (get_or w k d))
    (Contains-map place_of w (get_or w k d) (Contains-get_or w k d within))) in
    let others : All (λ p. p < n) (places waits) = λ k d within.
    All-contains (λ p. p < n) (places (w ∷ waits)) (get_or (places waits) k d) below
    (Contains-append_right (map place_of w) (places waits) (get_or (places waits) k d)
    (Contains-get_or (places waits) k d within)) in
    All-append (λ p. p < n) (unsure_of w) (unsure_places waits)
    (All-map (λ p. p < n) place_of (filter is_unsure w)
    (All-filter is_unsure (λ (t : Target). t.place < n) w own))
    (below-unsure n waits others)

-- marks for all places tell of each number whether it is the place of an unsure flush
pub marks-tell : (waits : List (List Target)) (marks : List Bool)
    → IsPermutation (range_with_len 0 (flush_count waits)) (places waits) → marks
    ≡ map (is_among (unsure_places waits)) (range_with_len 0 (flush_count waits))
    → (λ place. slice_index_or marks place false) ≡ is_among (unsure_places waits)
marks-tell waits marks numbered are = fun_ext (λ place. elim (cases_lt place (length marks)) [
  | inl within ↦ sym (marked-at (unsure_places waits) (flush_count waits) place marks are within)
  | inr past ↦
      let count : length marks ≡ flush_count waits =
      ap length are ∙ length-map-range_with_len (is_among (unsure_places waits)) 0 (flush_count waits) in
      let below : All (λ p. p < flush_count waits) (unsure_places waits) =
      below-unsure (flush_count waits) waits (All-permutation (λ p. p < flush_count waits)
      (range_with_len 0 (flush_count waits)) (places waits) numbered (range_with_len-below (flush_count waits))) in
      get_or_past marks place false past
      ∙ sym (list_any_none (λ (p : ℕ). p == place) (unsure_places waits)
      (λ k d within. ne_eqb (get_or (unsure_places waits) k d) place
      (λ e. absurd (omega (arith, below k d within, e, count)))))
])
