-- The order in which a played run queues the items: some of them first, then all others.
use Rattle.std.proofs.Common.{◌≡◌, ◌≢◌, ℕ, zero, suc, ◌+◌, ◌<◌, inl, inr, Bool, true, false, not, eqb, List, [], ◌∷◌, ◌++◌, length, get_or, Some, refl, sym, ap, subst, ◌∙◌, arith}
use Rattle.std.specs.Prelude.{AllPairs, Contains, slice_get}
use Rattle.std.specs.List.{All, filter, list_any, range_with_len}
use Rattle.std.proofs.lemmas.Bool.{cases_Bool, cond-true, cond-false, eqb-true, eq-eqb, ne_eqb, not-true, not_from_false, false≢true}
use Rattle.std.proofs.lemmas.List.Elements.{All-append, All-filter, All-contains, filter_passes, Contains-get_or, Contains-append_left, Contains-append_right}
use Rattle.std.proofs.lemmas.List.Folds.{Any-from_list_any, list_any-from_Any}
use Rattle.std.proofs.lemmas.List.Kept.{AllPairs-cons, AllPairs-filter}
use Rattle.std.proofs.lemmas.List.FromFn.{get_or-range_with_len, length-range_with_len}
use Rattle.wq_items.proofs.Lists.{Contains-later, Contains-filtered, Contains-range_with_len, AllPairs-head, AllPairs-tail, range_with_len-below}
use Rattle.wq_core.specs.Wiring.{Wiring, lane_of}
use Rattle.wq_core.proofs.Queued.{on_lane}

-- ---- lists

All-from_Contains : {X : Type 0} (P : X → Type 0) (xs : List X) → ((x : X) → Contains xs x → P x) → All P xs
All-from_Contains P xs each k d fits = each (get_or xs k d) (Contains-get_or xs k d fits)

AllPairs-append : {X : Type 0} (R : X → X → Type 0) (xs ys : List X) → AllPairs R xs → AllPairs R ys → ((x y : X) → Contains xs x → Contains ys y → R x y)
    → AllPairs R (xs ++ ys)
AllPairs-append R [] ys one other across = other
AllPairs-append {X} R (x ∷ xs) ys one other across =
    AllPairs-cons R x (xs ++ ys) (All-append (R x) xs ys (AllPairs-head R x xs one) (All-from_Contains (R x) ys (λ y h. across x y (0, omega arith, refl) h)))
    (AllPairs-append R xs ys (AllPairs-tail R x xs one) other (λ a y h k. across a y (Contains-later x xs a h) k))

AllPairs-range_with_len : (n : ℕ) → AllPairs (λ i j. i ≢ j) (range_with_len 0 n)
AllPairs-range_with_len n i j d lt within same =
    let size : length (range_with_len 0 n) ≡ n = length-range_with_len 0 n in
    let one : get_or (range_with_len 0 n) i d ≡ 0 + i = get_or-range_with_len 0 n i d (omega arith) in
    let other : get_or (range_with_len 0 n) j d ≡ 0 + j = get_or-range_with_len 0 n j d (omega arith) in
    omega arith

-- ---- the order

-- the item isn't among the first ones
abbrev pub is_other : List ℕ → ℕ → Bool
is_other first i = not (list_any (λ j. eqb i j) first)

-- the items below n that aren't among the first ones, in the order of their numbers
abbrev pub others_in_order : List ℕ → ℕ → List ℕ
others_in_order first n = filter (λ i. is_other first i) (range_with_len 0 n)

-- all items below n: these first, and then the others
abbrev pub in_order : List ℕ → ℕ → List ℕ
in_order first n = first ++ others_in_order first n

pub All-in_order : (first : List ℕ) (n : ℕ) → All (λ i. i < n) first → All (λ i. i < n) (in_order first n)
All-in_order first n below = All-append (λ i. i < n) first (others_in_order first n) below (All-filter (λ i. is_other first i) (λ i. i < n) (range_with_len 0 n) (range_with_len-below n))

pub AllPairs-in_order : (first : List ℕ) (n : ℕ) → AllPairs (λ i j. i ≢ j) first → AllPairs (λ i j. i ≢ j) (in_order first n)
AllPairs-in_order first n differ =
    AllPairs-append (λ i j. i ≢ j) first (others_in_order first n) differ
    (AllPairs-filter (λ i j. i ≢ j) (λ i. is_other first i) (range_with_len 0 n) (AllPairs-range_with_len n)) across
  where
    across : (i j : ℕ) → Contains first i → Contains (others_in_order first n) j → i ≢ j
    across i j (k, lt, at) other same =
        let passes : is_other first j ≡ true = All-contains (λ m. is_other first m ≡ true) (others_in_order first n) j (filter_passes (λ m. is_other first m) (range_with_len 0 n)) other in
        let none : list_any (λ m. eqb j m) first ≡ false = not-true (list_any (λ m. eqb j m) first) passes in
        let some : list_any (λ m. eqb j m) first ≡ true = list_any-from_Any (λ m. eqb j m) first (k, i, lt, at, eq-eqb j i (sym same)) in
        false≢true (sym none ∙ some)

pub Contains-in_order : (first : List ℕ) (n i : ℕ) → i < n → Contains (in_order first n) i
Contains-in_order first n i lt = elim (cases_Bool (list_any (λ j. eqb i j) first)) [
  | inl some ↦ (
      let found = Any-from_list_any (λ j. eqb i j) first some in
      let same : i ≡ found.1 = eqb-true i found.1 found.4 in
      Contains-append_left first (others_in_order first n) i (subst (λ (x : ℕ). Contains first x) (sym same) (found.0, found.2, found.3))
      )
  | inr none ↦ (
      Contains-append_right first (others_in_order first n) i
      (Contains-filtered (λ k. is_other first k) (range_with_len 0 n) i (not_from_false (list_any (λ j. eqb i j) first) none) (Contains-range_with_len n i lt))
      )
]

-- if the first items are on different lanes, each comes first on its lane
pub first_on_lane : (w : Wiring) (first others : List ℕ) (i : ℕ) → AllPairs (λ j k. lane_of w j ≢ lane_of w k) first → Contains first i
    → slice_get (on_lane w (lane_of w i) (first ++ others)) 0 ≡ Some i
first_on_lane w [] others i apart (k, lt, at) = absurd (omega arith)
first_on_lane w (x ∷ xs) others i apart (zero, lt, at) =
    let q : ℕ = lane_of w i in
    let rest : List ℕ = on_lane w q (xs ++ others) in
    let here : eqb (lane_of w x) q ≡ true = eq-eqb (lane_of w x) q (ap (lane_of w) at) in
    ap (λ (is : List ℕ). slice_get is 0) (cond-true (eqb (lane_of w x) q) (x ∷ rest) rest here) ∙ ap (λ (j : ℕ). Some j) at
first_on_lane w (x ∷ xs) others i apart (suc k, lt, at) =
    let q : ℕ = lane_of w i in
    let rest : List ℕ = on_lane w q (xs ++ others) in
    let within : k < length xs = omega arith in
    let there : eqb (lane_of w x) q ≡ false = ne_eqb (lane_of w x) q (λ same. AllPairs-head (λ a b. lane_of w a ≢ lane_of w b) x xs apart k i within (same ∙ ap (lane_of w) (sym at))) in
    ap (λ (is : List ℕ). slice_get is 0) (cond-false (eqb (lane_of w x) q) (x ∷ rest) rest there)
    ∙ first_on_lane w xs others i (AllPairs-tail (λ a b. lane_of w a ≢ lane_of w b) x xs apart) (k, within, at)
