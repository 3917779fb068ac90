-- The lists by which a reading of a table is made: marks of places, and new places.
use Rattle.std.proofs.Common.{◌≡◌, ℕ, ◌+◌, ◌<◌, inl, inr, Bool, true, false, cond, List, [], ◌∷◌, ◌++◌, length, map}
use Rattle.std.proofs.Common.{get_or, set, refl, sym, ap, ap₂, subst, ◌∙◌, arith}
use Rattle.std.specs.Prelude.{◌==◌, ◌||◌, not, filter, IsPermutation}
use Rattle.std.specs.List.{All, range_with_len}
use Rattle.std.proofs.lemmas.Bool.{cases_eq, eq-eqb, ne_eqb, or_right}
use Rattle.std.proofs.lemmas.List.{length-map, length-set, get_or-set_same, get_or-set_other}
use Rattle.std.proofs.lemmas.List.{get_or-map}
use Rattle.std.proofs.lemmas.List.Elements.{All-tail, All-filter}
use Rattle.std.proofs.lemmas.List.FromFn.{fill_by_all, length-map-range_with_len, get_or-map-range_with_len}
use Rattle.std.proofs.lemmas.List.Sorted.{All-permutation}
use Rattle.wq_items.specs.declared.target.Target.{Target}
use Rattle.wq_items.specs.Table.{targets_of, flush_count, places}
use Rattle.wq_items.specs.Readings.{is_among, is_kept, kept_of, places_before, renumbered, compact, is_marked, moved}
use Rattle.wq_items.proofs.Lists.{range_with_len-below}
use Rattle.wq_items.proofs.PlaceLemmas.{places-below}
use Rattle.wq_items.proofs.Ranks.{Differ, before-next}
use Rattle.wq_items.proofs.ReadingLemmas.{place_of, all_of, places-all, places-kept, targets_of-kept}

-- ---- marks

-- of so many places those among these are marked
pub record AreMarked (count : ℕ) (those : List ℕ) (marks : List Bool) : Type 0 where
  pub len : length marks ≡ count
  pub each : (q : ℕ) → q < count → get_or marks q false ≡ is_among those q

among-push : (those : List ℕ) (p q : ℕ) → is_among (those ++ (p ∷ [])) q ≡ (is_among those q || (p == q))
among-push [] p q = by (p == q)
  where
    by : (b : Bool) → (b || false) ≡ b
    by true = refl
    by false = refl
among-push (r ∷ those) p q = ap (λ (b : Bool). (r == q) || b) (among-push those p q) ∙ by (r == q)
  where
    by : (b : Bool) → (b || (is_among those q || (p == q))) ≡ ((b || is_among those q) || (p == q))
    by true = refl
    by false = refl

or_false : (b : Bool) → b ≡ (b || false)
or_false true = refl
or_false false = refl

pub AreMarked-more : (count : ℕ) (those : List ℕ) (marks : List Bool) (p : ℕ) → p < count → AreMarked count those marks
    → AreMarked count (those ++ (p ∷ [])) (set marks p true)
AreMarked-more count those marks p within h = record {
  len = length-set marks p true ∙ h.len;
  each = λ q fits. elim (cases_eq p q) [
    | inl same ↦
        let here : get_or (set marks p true) q false ≡ true =
        ap (λ (n : ℕ). get_or (set marks p true) n false) (sym same)
        ∙ get_or-set_same marks p true false (omega (arith, h.len)) in
        here ∙ sym (among-push those p q ∙ ap (λ (b : Bool). is_among those q || b) (eq-eqb p q same)
        ∙ or_right (is_among those q) true refl)
    | inr other ↦
        let there : get_or (set marks p true) q false ≡ get_or marks q false =
        get_or-set_other marks p q true false (λ e. other (sym e)) in
        there ∙ h.each q fits ∙ or_false (is_among those q)
        ∙ sym (among-push those p q ∙ ap (λ (b : Bool). is_among those q || b) (ne_eqb p q other))
  ];
}

pub AreMarked-all : (count : ℕ) (those : List ℕ) (marks : List Bool) → AreMarked count those marks
    → marks ≡ map (is_among those) (range_with_len 0 count)
AreMarked-all count those marks h = fill_by_all (is_among those) marks count false h.len h.each

-- what the marks say of one place
pub marked-at : (kept : List ℕ) (count n : ℕ) (marks : List Bool) → marks ≡ map (is_among kept) (range_with_len 0 count)
    → n < length marks → is_among kept n ≡ get_or marks n false
marked-at kept count n marks are within =
    let fits : n < count = omega (arith, within, ap length are, length-map-range_with_len (is_among kept) 0 count) in
    sym (ap (λ (l : List Bool). get_or l n false) are
    ∙ get_or-map-range_with_len (is_among kept) 0 count n n false fits (omega arith))

-- how many of these are before the next place
pub before-more : (kept : List ℕ) (n before : ℕ) (mark : Bool) → Differ kept → is_among kept n ≡ mark
    → before ≡ places_before kept n → cond mark (before + 1) before ≡ places_before kept (n + 1)
before-more kept n before mark differ is so_far = by mark is
  where
    next : places_before kept (n + 1) ≡ places_before kept n + cond (is_among kept n) 1 0
    next = before-next kept n differ

    by : (b : Bool) → is_among kept n ≡ b → cond b (before + 1) before ≡ places_before kept (n + 1)
    by true is =
        let one : ◌≡◌ {A = ℕ} (cond (is_among kept n) 1 0) 1 = ap (λ (b : Bool). cond b 1 0) is in
        omega (arith, one, next, so_far)
    by false is =
        let none : ◌≡◌ {A = ℕ} (cond (is_among kept n) 1 0) 0 = ap (λ (b : Bool). cond b 1 0) is in
        omega (arith, none, next, so_far)

-- ---- what is marked is kept, and what is moved has its new place

filter-same : (p q : Target → Bool) (ts : List Target) → All (λ (t : Target). p t ≡ q t) ts → filter p ts ≡ filter q ts
filter-same p q [] h = refl
filter-same p q (t ∷ ts) h =
    ap (λ (b : Bool). cond b (t ∷ filter p ts) (filter p ts)) (h 0 t (omega arith))
    ∙ ap (λ (l : List Target). cond (q t) (t ∷ l) l) (filter-same p q ts (All-tail (λ (t : Target). p t ≡ q t) t ts h))

module _ (count : ℕ) (kept : List ℕ) where
  marked-kept : (marks : List Bool) → marks ≡ map (is_among kept) (range_with_len 0 count) → (t : Target)
      → t.place < count → is_marked marks t ≡ is_kept kept t
  marked-kept marks are t within =
      ap (λ (b : Bool). not t.unsure || b) (ap (λ (l : List Bool). get_or l t.place false) are
      ∙ get_or-map-range_with_len (is_among kept) 0 count t.place t.place false within (omega arith))

  pub filter-marked : (marks : List Bool) → marks ≡ map (is_among kept) (range_with_len 0 count) → (ts : List Target)
      → All (λ (t : Target). t.place < count) ts → filter (is_marked marks) ts ≡ kept_of kept ts
  filter-marked marks are ts within = filter-same (is_marked marks) (is_kept kept) ts
      (λ k d fits. marked-kept marks are (get_or ts k d) (within k d fits))

  moved-renumbered : (others news : List ℕ) → news ≡ map (places_before others) (range_with_len 0 count) → (t : Target)
      → t.place < count → moved news t ≡ renumbered others t
  moved-renumbered others news are t within =
      ap (λ (p : ℕ). record t { unsure = false; place = p })
      (ap (λ (l : List ℕ). get_or l t.place 0) are
      ∙ get_or-map-range_with_len (places_before others) 0 count t.place t.place 0 within (omega arith))

  pub map-moved : (others news : List ℕ) → news ≡ map (places_before others) (range_with_len 0 count)
      → (ts : List Target) → All (λ (t : Target). t.place < count) ts → map (moved news) ts ≡ map (renumbered others) ts
  map-moved others news are [] within = refl
  map-moved others news are (t ∷ ts) within =
      ap₂ (λ (u : Target) (us : List Target). u ∷ us) (moved-renumbered others news are t (within 0 t (omega arith)))
      (map-moved others news are ts (All-tail (λ (u : Target). u.place < count) t ts within))

-- ---- places of a table

pub all-below : (waits : List (List Target)) → IsPermutation (range_with_len 0 (flush_count waits)) (places waits)
    → All (λ (t : Target). t.place < flush_count waits) (all_of waits)
all-below waits numbered k d within =
    let n : ℕ = flush_count waits in
    let each : All (λ p. p < n) (map place_of (all_of waits)) =
    subst (All (λ p. p < n)) (places-all waits) (All-permutation (λ p. p < n) (range_with_len 0 n) (places waits)
    numbered (range_with_len-below n)) in
    omega (
      arith,
      each k 0 (omega (arith, length-map (all_of waits) place_of)),
      get_or-map place_of (all_of waits) k d 0 within,
    )

pub each-below : (waits : List (List Target)) (i : ℕ) → i < length waits
    → IsPermutation (range_with_len 0 (flush_count waits)) (places waits)
    → All (λ (t : Target). t.place < flush_count waits) (targets_of waits i)
each-below waits i lt numbered k d within =
    let n : ℕ = flush_count waits in
    let each : All (λ p. p < n) (map place_of (targets_of waits i)) = places-below n waits i lt numbered in
    omega (
      arith,
      each k 0 (omega (arith, length-map (targets_of waits i) place_of)),
      get_or-map place_of (targets_of waits i) k d 0 within,
    )

-- the places of the flushes that the reading has
pub places-marked : (kept : List ℕ) (waits : List (List Target)) (marks : List Bool)
    → IsPermutation (range_with_len 0 (flush_count waits)) (places waits)
    → marks ≡ map (is_among kept) (range_with_len 0 (flush_count waits))
    → map place_of (filter (is_marked marks) (all_of waits)) ≡ places (map (kept_of kept) waits)
places-marked kept waits marks numbered are =
    ap (map place_of) (filter-marked (flush_count waits) kept marks are (all_of waits) (all-below waits numbered))
    ∙ sym (places-kept kept waits)

-- the flushes of item i in the reading
pub targets-moved : (kept : List ℕ) (waits : List (List Target)) (marks : List Bool) (news : List ℕ) (i : ℕ)
    → i < length waits → IsPermutation (range_with_len 0 (flush_count waits)) (places waits)
    → marks ≡ map (is_among kept) (range_with_len 0 (flush_count waits))
    → news ≡ map (places_before (places (map (kept_of kept) waits))) (range_with_len 0 (flush_count waits))
    → map (moved news) (filter (is_marked marks) (targets_of waits i)) ≡ targets_of (compact kept waits) i
targets-moved kept waits marks news i lt numbered are news_are =
    let n : ℕ = flush_count waits in
    let others : List ℕ = places (map (kept_of kept) waits) in
    let below : All (λ (t : Target). t.place < n) (targets_of waits i) = each-below waits i lt numbered in
    let left : filter (is_marked marks) (targets_of waits i) ≡ kept_of kept (targets_of waits i) =
    filter-marked n kept marks are (targets_of waits i) below in
    ap (map (moved news)) left
    ∙ map-moved n kept others news news_are (kept_of kept (targets_of waits i))
    (All-filter (is_kept kept) (λ (t : Target). t.place < n) (targets_of waits i) below)
    ∙ sym (get_or-map (map (renumbered others)) (map (kept_of kept) waits) i [] []
    (omega (arith, lt, length-map waits (kept_of kept)))
    ∙ ap (map (renumbered others)) (targets_of-kept kept waits i))

-- lists are those of their numbers, in turn
pub lists-each : (waits : List (List Target)) → waits ≡ map (targets_of waits) (range_with_len 0 (length waits))
lists-each waits = fill_by_all (targets_of waits) waits (length waits) [] refl (λ k within. refl)
