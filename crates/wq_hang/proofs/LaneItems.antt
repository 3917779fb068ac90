-- The items of each lane, as their places in the list of all lanes, and those on marked lanes.
use Rattle.std.proofs.Common.{
  ◌≡◌,
  ℕ,
  ◌+◌,
  ◌<◌,
  ◌⊎◌,
  Bool,
  true,
  false,
  eqb,
  List,
  [],
  ◌∷◌,
  ◌++◌,
  length,
  map,
  get_or,
  sym,
  ap,
  subst,
  ◌∙◌,
  arith,
  inl,
  inr,
}
use Rattle.std.specs.Prelude.{Contains, slice_index, slice_index_or}
use Rattle.std.specs.List.{All, range_with_len}
use Rattle.std.proofs.lemmas.Bool.{cases_eq, cases_lt, eqb-true, eq-eqb, false≢true}
use Rattle.std.proofs.lemmas.List.{get_or-map, get_or_past, map_push}
use Rattle.std.proofs.lemmas.List.Elements.{
  All-nil,
  All-cons,
  All-append,
  All-contains,
  Contains-push,
  Contains-push_cases,
  Contains-append_left,
  Contains-append_right,
  Contains-append_cases,
  filter_passes,
}
use Rattle.std.proofs.lemmas.List.FromFn.{get_or-range_with_len, length-range_with_len, length-map-range_with_len}
use Rattle.wq_buckets.specs.Places.{places_of, buckets_of}
use Rattle.wq_items.proofs.Lists.{Contains-filtered, Contains-range_with_len, range_with_len-below}
use Rattle.wq_items.proofs.TableLemmas.{range_with_len-push}
use Rattle.wq_core.specs.Wiring.{Wiring, IsWiring, items, lane_of}
use Rattle.wq_core.proofs.LaneLemmas.{Contains-filter}
use Rattle.wq_core.proofs.Wirings.{lane_of-within}
use Rattle.wq_hang.specs.Search.{AreItemsOn, AreMarkedOf}

-- the lane of each item
abbrev pub item_lanes : Wiring → List ℕ
item_lanes w = map (lane_of w) (range_with_len 0 (items w))

pub length-item_lanes : (w : Wiring) → length (item_lanes w) ≡ items w
length-item_lanes w = length-map-range_with_len (lane_of w) 0 (items w)

pub item_lanes-at : (w : Wiring) (i : ℕ) → i < items w → slice_index (item_lanes w) i ≡ lane_of w i
item_lanes-at w i lt =
    get_or-map (lane_of w) (range_with_len 0 (items w)) i 0 0 (omega (arith, lt, length-range_with_len 0 (items w)))
    ∙ ap (lane_of w) (get_or-range_with_len 0 (items w) i 0 lt ∙ omega arith)

pub item_lanes-within : (w : Wiring) → IsWiring w → All (λ q. q < w.lanes) (item_lanes w)
item_lanes-within w wiring k d lt =
    let within : k < items w = omega (arith, lt, length-item_lanes w) in
    let at : get_or (item_lanes w) k d ≡ lane_of w k =
    get_or-map (lane_of w) (range_with_len 0 (items w)) k 0 d (omega (arith, within, length-range_with_len 0 (items w)))
    ∙ ap (lane_of w) (get_or-range_with_len 0 (items w) k 0 within ∙ omega arith) in
    subst (λ (q : ℕ). q < w.lanes) (sym at) (lane_of-within w wiring k within)

module _ (w : Wiring) (wiring : IsWiring w) where
  bucket : (q : ℕ) → q < w.lanes → slice_index_or (buckets_of (item_lanes w) w.lanes) q [] ≡ places_of (item_lanes w) q
  bucket q lt =
      get_or-map (places_of (item_lanes w)) (range_with_len 0 w.lanes) q 0 []
      (omega (arith, lt, length-range_with_len 0 w.lanes))
      ∙ ap (places_of (item_lanes w)) (get_or-range_with_len 0 w.lanes q 0 lt ∙ omega arith)

  pub AreItemsOn-buckets : AreItemsOn w (buckets_of (item_lanes w) w.lanes)
  AreItemsOn-buckets = record {
    one_each = length-map-range_with_len (places_of (item_lanes w)) 0 w.lanes;
    within = within;
    all = all;
  }
    where
      within : (q i : ℕ) → Contains (slice_index_or (buckets_of (item_lanes w) w.lanes) q []) i → (i < items w)
          × (lane_of w i ≡ q)
      within q i there = elim (cases_lt q w.lanes) [
        | inl lt ↦ (
            let keys : List ℕ = item_lanes w in
            let here : Contains (places_of keys q) i = subst (λ (l : List ℕ). Contains l i) (bucket q lt) there in
            let below : i < length keys = All-contains (λ p. p < length keys) (range_with_len 0 (length keys)) i
            (range_with_len-below (length keys)) (Contains-filter (λ p. eqb (slice_index keys p) q)
            (range_with_len 0 (length keys)) i here) in
            let passes : eqb (slice_index keys i) q ≡ true =
            All-contains (λ p. eqb (slice_index keys p) q ≡ true) (places_of keys q) i
            (filter_passes (λ p. eqb (slice_index keys p) q) (range_with_len 0 (length keys))) here in
            let item : i < items w = omega (arith, below, length-item_lanes w) in
            (item, sym (item_lanes-at w i item) ∙ eqb-true (slice_index keys i) q passes)
            )
        | inr past ↦ (
            let none : slice_index_or (buckets_of (item_lanes w) w.lanes) q [] ≡ [] =
            get_or_past (buckets_of (item_lanes w) w.lanes) q []
            (omega (arith, past, length-map-range_with_len (places_of (item_lanes w)) 0 w.lanes)) in
            absurd (omega (arith, there.1, ap (λ (l : List ℕ). length l) none))
            )
      ]

      all : (i : ℕ) → i < items w → Contains (slice_index_or (buckets_of (item_lanes w) w.lanes) (lane_of w i) []) i
      all i lt =
          let keys : List ℕ = item_lanes w in
          let q : ℕ = lane_of w i in
          let there : Contains (range_with_len 0 (length keys)) i =
          Contains-range_with_len (length keys) i (omega (arith, lt, length-item_lanes w)) in
          subst (λ (l : List ℕ). Contains l i) (sym (bucket q (lane_of-within w wiring i lt)))
          (Contains-filtered (λ p. eqb (slice_index keys p) q) (range_with_len 0 (length keys)) i
          (eq-eqb (slice_index keys i) q (item_lanes-at w i lt)) there)

-- one item more
pub item_lanes-more : (w : Wiring) (n : ℕ) (lanes new : List ℕ) (q : ℕ) → lanes ≡ map (lane_of w) (range_with_len 0 n)
    → new ≡ lanes ++ (q ∷ []) → q ≡ lane_of w n → new ≡ map (lane_of w) (range_with_len 0 (n + 1))
item_lanes-more w n lanes new q before more is =
    more ∙ ap (λ (l : List ℕ). l ++ (q ∷ [])) before
    ∙ ap (λ (p : ℕ). map (lane_of w) (range_with_len 0 n) ++ (p ∷ [])) is
    ∙ sym (ap (map (lane_of w)) (range_with_len-push n) ∙ map_push (lane_of w) (range_with_len 0 n) n)

-- ---- items on marked lanes

-- items, and among them those of the items below n that are on marked lanes
pub record AreMarkedBelow (w : Wiring) (marks : List Bool) (n : ℕ) (list : List ℕ) : Type 0 where
  pub within : All (λ i. i < items w) list
  pub marked : (i : ℕ) → Contains list i → slice_index_or marks (lane_of w i) false ≡ true
  pub all : (i : ℕ) → i < n → slice_index_or marks (lane_of w i) false ≡ true → Contains list i

pub AreMarkedBelow-none : (w : Wiring) (marks : List Bool) → AreMarkedBelow w marks 0 []
AreMarkedBelow-none w marks = record {
  within = All-nil (λ i. i < items w);
  marked = λ i there. absurd (omega (arith, there.1));
  all = λ i below marked. absurd (omega (arith, below));
}

pub AreMarkedBelow-more : (w : Wiring) (marks : List Bool) (n : ℕ) (list new : List ℕ) → AreMarkedBelow w marks n list
    → n < items w → slice_index_or marks (lane_of w n) false ≡ true → new ≡ list ++ (n ∷ [])
    → AreMarkedBelow w marks (n + 1) new
AreMarkedBelow-more w marks n list new are item now is = subst (AreMarkedBelow w marks (n + 1)) (sym is) (record {
  within = All-append (λ i. i < items w) list (n ∷ []) are.within
      (All-cons (λ i. i < items w) n [] item (All-nil (λ i. i < items w)));
  marked = λ i there. elim (Contains-push_cases list n i there) [
    | inl old ↦ are.marked i old
    | inr same ↦ subst (λ (k : ℕ). slice_index_or marks (lane_of w k) false ≡ true) same now
  ];
  all = λ i below marked. elim (cases_eq i n) [
    | inl same ↦ subst (λ (k : ℕ). Contains (list ++ (n ∷ [])) k) (sym same) (Contains-push list n)
    | inr other ↦ Contains-append_left list (n ∷ []) i (are.all i (omega arith) marked)
  ];
})

pub AreMarkedBelow-kept : (w : Wiring) (marks : List Bool) (n : ℕ) (list : List ℕ) → AreMarkedBelow w marks n list
    → slice_index_or marks (lane_of w n) false ≡ false → AreMarkedBelow w marks (n + 1) list
AreMarkedBelow-kept w marks n list are unmarked = record {
  within = are.within;
  marked = are.marked;
  all = λ i below marked. elim (cases_eq i n) [
    | inl same ↦ absurd (false≢true (sym unmarked ∙ ap (λ (k : ℕ). slice_index_or marks (lane_of w k) false) (sym same)
        ∙ marked))
    | inr other ↦ are.all i (omega arith) marked
  ];
}

pub AreMarkedOf-none : (on : List (List ℕ)) (marks : List Bool) → AreMarkedOf on marks [] []
AreMarkedOf-none on marks = record {
  within = λ i there. absurd (omega (arith, there.1));
  all = λ q i there marked on_it. absurd (omega (arith, there.1));
}

-- one lane more, which is marked
pub AreMarkedOf-more : (on : List (List ℕ)) (marks : List Bool) (before after list new : List ℕ) (q : ℕ)
    → AreMarkedOf on marks before list → ((p : ℕ) → Contains after p → Contains before p ⊎ (q ≡ p))
    → slice_index_or marks q false ≡ true → new ≡ list ++ slice_index_or on q [] → AreMarkedOf on marks after new
AreMarkedOf-more on marks before after list new q are more marked is =
    subst (AreMarkedOf on marks after) (sym is) (record {
      within = λ i there. elim (Contains-append_cases list (slice_index_or on q []) i there)
          [ inl old ↦ are.within i old | inr now ↦ (q, now, marked) ];
      all = λ p i there marked on_it. elim (more p there) [
        | inl old ↦ Contains-append_left list (slice_index_or on q []) i (are.all p i old marked on_it)
        | inr same ↦ Contains-append_right list (slice_index_or on q []) i
            (subst (λ (k : ℕ). Contains (slice_index_or on k []) i) (sym same) on_it)
      ];
    })

-- one lane more, which isn't
pub AreMarkedOf-kept : (on : List (List ℕ)) (marks : List Bool) (before after list : List ℕ) (q : ℕ)
    → AreMarkedOf on marks before list → ((p : ℕ) → Contains after p → Contains before p ⊎ (q ≡ p))
    → slice_index_or marks q false ≡ false → AreMarkedOf on marks after list
AreMarkedOf-kept on marks before after list q are more unmarked = record {
  within = are.within;
  all = λ p i there marked on_it. elim (more p there) [
    | inl old ↦ are.all p i old marked on_it
    | inr same ↦ absurd (false≢true (sym unmarked ∙ ap (λ (k : ℕ). slice_index_or marks k false) same ∙ marked))
  ];
}
