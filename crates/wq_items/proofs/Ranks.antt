-- How many of some numbers are before one of them, if they differ: 0, 1, 2 and so on, in another order.
use Rattle.std.proofs.Common.{◌≡◌, ◌≢◌, ◌⊎◌, inl, inr, ℕ, zero, suc, ◌+◌, ◌<◌, ◌≤◌, Bool, false, cond, eqb, List, []}
use Rattle.std.proofs.Common.{◌∷◌, ◌++◌, length, map, get_or, refl, sym, ap, subst, ◌∙◌, arith}
use Rattle.std.specs.Prelude.{◌||◌, nat_lt, AllPairs, Contains, IsPermutation}
use Rattle.std.specs.List.{All, range_with_len, remove, IsDistinct}
use Rattle.std.proofs.lemmas.Bool.{cases_eq, cases_lt, cases_order, eq-eqb, ne_eqb, eqb-false, lt-ltb, le-ltb}
use Rattle.std.proofs.lemmas.List.{length-map, get_or-map}
use Rattle.std.proofs.lemmas.List.Elements.{All-cons, All-map, Contains-get_or}
use Rattle.std.proofs.lemmas.List.Edits.{length-remove}
use Rattle.std.proofs.lemmas.List.FromFn.{length-range_with_len, get_or-range_with_len}
use Rattle.std.proofs.lemmas.List.Quantifiers.{all_pairs_remove}
use Rattle.std.proofs.lemmas.List.Sorted.{IsPermutation-refl, IsPermutation-sym, IsPermutation-trans}
use Rattle.std.proofs.lemmas.List.Sorted.{IsPermutation-cons, IsPermutation-to_front, IsPermutation-remove}
use Rattle.std.proofs.lemmas.List.Sorted.{All-permutation}
use Rattle.std.proofs.lemmas.List.Sums.{sum_by-cons}
use Rattle.std.proofs.lemmas.Map.Keys.{IsDistinct-from_apart, IsDistinct-IsPermutation, apart_from_distinct}
use Rattle.wq_items.specs.Readings.{is_among, places_before}
use Rattle.wq_items.proofs.Lists.{AllPairs-head, AllPairs-tail}
use Rattle.wq_items.proofs.Pigeonhole.{repeats_from_length}
use Rattle.wq_items.proofs.TableLemmas.{range_with_len-push}

abbrev pub Differ : List ℕ → Type 0
Differ xs = AllPairs (λ (a b : ℕ). a ≢ b) xs

-- ---- how many are before a number

before-cons : (x : ℕ) (xs : List ℕ) (n : ℕ) → places_before (x ∷ xs) n ≡ cond (nat_lt x n) 1 0 + places_before xs n
before-cons x xs n = sum_by-cons (λ (p : ℕ). cond (nat_lt p n) 1 0) x xs

before-one : (x n : ℕ) → ((x < n) × (◌≡◌ {A = ℕ} (cond (nat_lt x n) 1 0) 1)) ⊎
    ((n ≤ x) × (◌≡◌ {A = ℕ} (cond (nat_lt x n) 1 0) 0))
before-one x n = elim (cases_lt x n) [
  | inl lt ↦ inl (lt, ap (λ (b : Bool). cond b 1 0) (lt-ltb x n lt))
  | inr le ↦ inr (le, ap (λ (b : Bool). cond b 1 0) (le-ltb x n le))
]

pub before-grows : (xs : List ℕ) (m n : ℕ) → m ≤ n → places_before xs m ≤ places_before xs n
before-grows [] m n le = omega arith
before-grows (x ∷ xs) m n le =
    let rest : places_before xs m ≤ places_before xs n = before-grows xs m n le in
    elim (before-one x m) [
      | inl low ↦ elim (before-one x n) [
        | inl lower ↦ omega (arith, before-cons x xs m, before-cons x xs n, low.1, lower.1)
        | inr higher ↦ absurd (omega (arith, low.0, higher.0))
      ]
      | inr high ↦ elim (before-one x n) [
        | inl lower ↦ omega (arith, before-cons x xs m, before-cons x xs n, high.1, lower.1)
        | inr higher ↦ omega (arith, before-cons x xs m, before-cons x xs n, high.1, higher.1)
      ]
    ]

-- one that is there is not before itself
pub before-below : (xs : List ℕ) (n : ℕ) → Contains xs n → places_before xs n < length xs
before-below [] n (k, within, is) = absurd (omega arith)
before-below (x ∷ xs) n (zero, within, is) =
    let rest : places_before xs n ≤ length xs = before-short xs n in
    elim (before-one x n) [
      | inl low ↦ absurd (omega (arith, low.0, is))
      | inr high ↦ omega (arith, before-cons x xs n, high.1)
    ]
  where
    before-short : (xs : List ℕ) (n : ℕ) → places_before xs n ≤ length xs
    before-short [] n = omega arith
    before-short (x ∷ xs) n =
        let rest : places_before xs n ≤ length xs = before-short xs n in
        elim (before-one x n) [
          | inl low ↦ omega (arith, before-cons x xs n, low.1)
          | inr high ↦ omega (arith, before-cons x xs n, high.1)
        ]
before-below (x ∷ xs) n (suc k, within, is) =
    let rest : places_before xs n < length xs = before-below xs n (k, omega arith, is) in
    elim (before-one x n) [
      | inl low ↦ omega (arith, before-cons x xs n, low.1)
      | inr high ↦ omega (arith, before-cons x xs n, high.1)
    ]

-- more are before a greater number, if the smaller one is there
pub before-rises : (xs : List ℕ) (m n : ℕ) → Contains xs m → m < n → places_before xs m < places_before xs n
before-rises [] m n (k, within, is) lt = absurd (omega arith)
before-rises (x ∷ xs) m n (zero, within, is) lt =
    let rest : places_before xs m ≤ places_before xs n = before-grows xs m n (omega arith) in
    elim (before-one x m) [
      | inl low ↦ absurd (omega (arith, low.0, is))
      | inr high ↦ elim (before-one x n) [
        | inl lower ↦ omega (arith, before-cons x xs m, before-cons x xs n, high.1, lower.1)
        | inr higher ↦ absurd (omega (arith, higher.0, is, lt))
      ]
    ]
before-rises (x ∷ xs) m n (suc k, within, is) lt =
    let rest : places_before xs m < places_before xs n = before-rises xs m n (k, omega arith, is) lt in
    elim (before-one x m) [
      | inl low ↦ elim (before-one x n) [
        | inl lower ↦ omega (arith, before-cons x xs m, before-cons x xs n, low.1, lower.1)
        | inr higher ↦ absurd (omega (arith, low.0, higher.0, lt))
      ]
      | inr high ↦ elim (before-one x n) [
        | inl lower ↦ omega (arith, before-cons x xs m, before-cons x xs n, high.1, lower.1)
        | inr higher ↦ omega (arith, before-cons x xs m, before-cons x xs n, high.1, higher.1)
      ]
    ]

-- none is before the first number
pub before-zero : (xs : List ℕ) → places_before xs 0 ≡ 0
before-zero [] = refl
before-zero (x ∷ xs) = elim (before-one x 0) [
  | inl low ↦ absurd (omega (arith, low.0))
  | inr high ↦ omega (arith, before-cons x xs 0, high.1, before-zero xs)
]

-- one that is nowhere is not among them
not_among : (xs : List ℕ) (n : ℕ) → All (λ x. x ≢ n) xs → is_among xs n ≡ false
not_among [] n none = refl
not_among (x ∷ xs) n none = ap (λ (b : Bool). b || is_among xs n) (ne_eqb x n (none 0 0 (omega arith)))
    ∙ not_among xs n (λ k d within. none (suc k) d (omega arith))

-- one more is before the next number, if the number is there
pub before-next : (xs : List ℕ) (n : ℕ) → Differ xs
    → places_before xs (n + 1) ≡ places_before xs n + cond (is_among xs n) 1 0
before-next [] n differ = omega arith
before-next (x ∷ xs) n differ =
    let rest : places_before xs (n + 1) ≡ places_before xs n + cond (is_among xs n) 1 0 =
    before-next xs n (AllPairs-tail (λ (a b : ℕ). a ≢ b) x xs differ) in
    elim (cases_eq x n) [
      | inl same ↦
          let none : is_among xs n ≡ false =
          not_among xs n (subst (λ (m : ℕ). All (λ y. y ≢ m) xs) same
          (λ k d within e. AllPairs-head (λ (a b : ℕ). a ≢ b) x xs differ k d within (sym e))) in
          let here : ◌≡◌ {A = ℕ} (cond (is_among (x ∷ xs) n) 1 0) 1 =
          ap (λ (b : Bool). cond (b || is_among xs n) 1 0) (eq-eqb x n same) in
          let no : ◌≡◌ {A = ℕ} (cond (is_among xs n) 1 0) 0 = ap (λ (b : Bool). cond b 1 0) none in
          elim (before-one x n) [
            | inl low ↦ absurd (omega (arith, low.0, same))
            | inr high ↦ elim (before-one x (n + 1)) [
              | inl lower ↦ omega (arith, before-cons x xs n, before-cons x xs (n + 1), high.1, lower.1, rest, here, no)
              | inr higher ↦ absurd (omega (arith, higher.0, same))
            ]
          ]
      | inr other ↦
          let here : ◌≡◌ {A = ℕ} (cond (is_among (x ∷ xs) n) 1 0) (cond (is_among xs n) 1 0) =
          ap (λ (b : Bool). cond (b || is_among xs n) 1 0) (ne_eqb x n other) in
          elim (before-one x n) [
            | inl low ↦ elim (before-one x (n + 1)) [
              | inl lower ↦ omega (arith, before-cons x xs n, before-cons x xs (n + 1), low.1, lower.1, rest, here)
              | inr higher ↦ absurd (omega (arith, low.0, higher.0))
            ]
            | inr high ↦ elim (before-one x (n + 1)) [
              | inl lower ↦ absurd (other (omega (arith, high.0, lower.0)))
              | inr higher ↦ omega (arith, before-cons x xs n, before-cons x xs (n + 1), high.1, higher.1, rest, here)
            ]
          ]
    ]

-- ---- numbers that differ

eqb-flips : (x y : ℕ) → eqb x y ≡ eqb y x
eqb-flips x y = elim (cases_eq x y) [
  | inl same ↦ ap (λ (z : ℕ). eqb x z) (sym same) ∙ ap (λ (z : ℕ). eqb z x) same
  | inr other ↦ ne_eqb x y other ∙ sym (ne_eqb y x (λ e. other (sym e)))
]

-- in another order they still differ
pub Differ-IsPermutation : (xs ys : List ℕ) → IsPermutation xs ys → Differ xs → Differ ys
Differ-IsPermutation xs ys moved differ i j d lt within =
    let first : IsDistinct eqb xs = IsDistinct-from_apart eqb xs
    (λ k m e less in-xs. ne_eqb (get_or xs k e) (get_or xs m e) (differ k m e less in-xs)) in
    let second : IsDistinct eqb ys = IsDistinct-IsPermutation eqb eqb-flips xs ys moved first in
    eqb-false (get_or ys i d) (get_or ys j d) (apart_from_distinct eqb ys i j d second lt within)

-- the numbers below n differ, in any order
pub Differ-numbered : (n : ℕ) (xs : List ℕ) → IsPermutation (range_with_len 0 n) xs → Differ xs
Differ-numbered n xs moved = Differ-IsPermutation (range_with_len 0 n) xs moved (λ i j d lt within same.
    let fits : j < n = omega (arith, within, length-range_with_len 0 n) in
    absurd (omega (arith, same, lt, get_or-range_with_len 0 n i d (omega arith), get_or-range_with_len 0 n j d fits)))

-- ---- numbers below their count

found_or_not : (xs : List ℕ) (n : ℕ) → Contains xs n ⊎ All (λ x. x ≢ n) xs
found_or_not [] n = inr (λ k d within. absurd (omega arith))
found_or_not (x ∷ xs) n = elim (cases_eq x n) [
  | inl same ↦ inl (0, omega arith, same)
  | inr other ↦ elim (found_or_not xs n) [
    | inl later ↦ inl (suc later.0, omega (arith, later.1), later.2)
    | inr none ↦ inr (All-cons (λ (y : ℕ). y ≢ n) x xs other none)
  ]
]

-- numbers that differ, below their count, are 0, 1, 2 and so on in some order
pub IsPermutation-numbered : (n : ℕ) (xs : List ℕ) → length xs ≡ n → Differ xs → All (λ x. x < n) xs
    → IsPermutation (range_with_len 0 n) xs
IsPermutation-numbered zero [] long differ below = IsPermutation-refl []
IsPermutation-numbered zero (x ∷ xs) long differ below = absurd (omega (arith, long))
IsPermutation-numbered (suc n) xs long differ below = elim (found_or_not xs n) [
  | inl found ↦
      let i = found.0 in
      let rest = remove xs i in
      let within : i < length xs = found.1 in
      let shorter : length rest ≡ n = omega (arith, length-remove xs i within, long) in
      let moved : IsPermutation xs (n ∷ rest) = IsPermutation-remove xs i n within (sym found.2) in
      let apart : All (λ x. x ≢ n) rest = λ k d in-rest e.
      Differ-IsPermutation xs (n ∷ rest) moved differ 0 (suc k) d (omega arith) (omega arith) (sym e) in
      let low : All (λ x. x < suc n) (n ∷ rest) = All-permutation (λ x. x < suc n) xs (n ∷ rest) moved below in
      let lower : All (λ x. x < n) rest = λ k d in-rest.
      let under : get_or rest k d < suc n = low (suc k) d (omega arith) in
      let not : get_or rest k d ≢ n = apart k d in-rest in
      below-other (get_or rest k d) n under not in
      let inner : IsPermutation (range_with_len 0 n) rest = IsPermutation-numbered n rest shorter
      (all_pairs_remove (λ (a b : ℕ). a ≢ b) xs i within differ) lower in
      let one_more : suc n ≡ n + 1 = omega arith in
      let pushed : range_with_len 0 (suc n) ≡ range_with_len 0 n ++ (n ∷ []) = ap (range_with_len 0) one_more
      ∙ range_with_len-push n in
      subst (λ (l : List ℕ). IsPermutation l xs) (sym pushed) (
      IsPermutation-trans (range_with_len 0 n ++ (n ∷ [])) (n ∷ range_with_len 0 n) xs
      (IsPermutation-to_front (range_with_len 0 n) n) (
      IsPermutation-trans (n ∷ range_with_len 0 n) (n ∷ rest) xs (IsPermutation-cons n (range_with_len 0 n) rest inner)
      (IsPermutation-sym xs (n ∷ rest) moved)
      )
      )
  | inr none ↦
      let lower : All (λ x. x < n) xs = λ k d within. below-other (get_or xs k d) n (below k d within)
      (none k d within) in
      let twice = repeats_from_length n xs lower (omega (arith, long)) in
      absurd (differ twice.0 twice.1 0 twice.2 twice.3 twice.4)
]
  where
    below-other : (x n : ℕ) → x < suc n → x ≢ n → x < n
    below-other x n under not = elim (cases_lt x n) [ inl lt ↦ lt | inr le ↦ absurd (not (omega arith)) ]

-- ---- how many are before each

Differ-ranks : (xs : List ℕ) → Differ xs → Differ (map (places_before xs) xs)
Differ-ranks xs differ i j d lt within same =
    let long : length (map (places_before xs) xs) ≡ length xs = length-map xs (places_before xs) in
    let in-j : j < length xs = omega arith in
    let in-i : i < length xs = omega arith in
    let a : ℕ = get_or xs i 0 in
    let b : ℕ = get_or xs j 0 in
    let equal : places_before xs a ≡ places_before xs b =
    sym (get_or-map (places_before xs) xs i 0 d in-i) ∙ same ∙ get_or-map (places_before xs) xs j 0 d in-j in
    elim (cases_order a b) [
      | inl e ↦ differ i j 0 lt in-j e
      | inr (inl less) ↦ omega (arith, before-rises xs a b (Contains-get_or xs i 0 in-i) less, equal)
      | inr (inr more) ↦ omega (arith, before-rises xs b a (Contains-get_or xs j 0 in-j) more, equal)
    ]

-- numbers that differ, each as how many of them are before it, are 0, 1, 2 and so on in some order
pub IsPermutation-ranks : (xs : List ℕ) → Differ xs
    → IsPermutation (range_with_len 0 (length xs)) (map (places_before xs) xs)
IsPermutation-ranks xs differ =
    IsPermutation-numbered (length xs) (map (places_before xs) xs) (length-map xs (places_before xs))
    (Differ-ranks xs differ) (
    All-map (λ x. x < length xs) (places_before xs) xs (λ k d within. before-below xs (get_or xs k d)
    (Contains-get_or xs k d within))
    )
