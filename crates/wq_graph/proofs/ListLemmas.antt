-- Lists in general: what they contain, in which order, and what is found in them.
use Rattle.std.proofs.Common.{◌≡◌, ◌≢◌, ℕ, zero, suc, ◌+◌, ◌<◌, Bool, true, cond, eqb, ◌⊎◌, inl, inr, List, [], ◌∷◌, ◌++◌, length, map, get_or, set, Option, Some, refl, sym, ap, subst, ◌∙◌, arith}
use Rattle.std.specs.Prelude.{IsPermutation, AllPairs, Contains, find, filter_map}
use Rattle.std.specs.List.{All, range_with_len, flat_map, swap, cons_option}
use Rattle.std.specs.List.Sorted.{IsStrictlyIncreasing}
use Rattle.std.proofs.lemmas.Bool.{cases_Bool, cases_eq, both_ways, cond-true, cond-false}
use Rattle.std.proofs.lemmas.Bool.Decides.{nat_tests}
use Rattle.std.proofs.lemmas.List.{length-map, length-set, map-append, get_or-map, get_or-set_same, get_or-set_other, get_or_default}
use Rattle.std.proofs.lemmas.List.Edits.{swap_is, length-swap}
use Rattle.std.proofs.lemmas.List.Elements.{All-nil, All-append, All-contains, Contains-append_left, Contains-append_right}
use Rattle.std.proofs.lemmas.List.FromFn.{fill_by_all, get_or-range_with_len, length-range_with_len}
use Rattle.std.proofs.lemmas.List.Sorted.{IsPermutation-keeps}
use Rattle.wq_items.proofs.Lists.{Contains-here, Contains-later, AllPairs-head, AllPairs-tail}

-- ---- elements

pub Contains-cases : {X : Type 0} (y : X) (xs : List X) (x : X) → Contains (y ∷ xs) x → (y ≡ x) ⊎ Contains xs x
Contains-cases y xs x (zero, within, is) = inl is
Contains-cases y xs x (suc k, within, is) = inr (k, omega (arith, within), is)

pub Contains-map : {X Y : Type 0} (f : X → Y) (xs : List X) (x : X) → Contains xs x → Contains (map f xs) (f x)
Contains-map f xs x h = (h.0, omega (arith, h.1, length-map xs f), get_or-map f xs h.0 x (f x) h.1 ∙ ap f h.2)

-- what f made an element of
pub Contains-from_map : {X Y : Type 0} (f : X → Y) (xs : List X) (y : Y) → Contains (map f xs) y → (x : X) × Contains xs x × (f x ≡ y)
Contains-from_map f [] y h = absurd (omega (arith, h.1))
Contains-from_map f (x ∷ xs) y h = elim (Contains-cases (f x) (map f xs) y h) [
  | inl here ↦ (x, Contains-here x xs, here)
  | inr later ↦ let from = Contains-from_map f xs y later in (from.0, Contains-later x xs from.0 from.1, from.2)
]

pub Contains-flat_map : {X Y : Type 0} (f : X → List Y) (xs : List X) (x : X) (y : Y) → Contains xs x → Contains (f x) y → Contains (flat_map f xs) y
Contains-flat_map f [] x y h own = absurd (omega (arith, h.1))
Contains-flat_map f (z ∷ zs) x y h own = elim (Contains-cases z zs x h) [
  | inl here ↦ Contains-append_left (f z) (flat_map f zs) y (subst (λ w. Contains (f w) y) (sym here) own)
  | inr later ↦ Contains-append_right (f z) (flat_map f zs) y (Contains-flat_map f zs x y later own)
]

pub All-flat_map : {X Y : Type 0} (P : Y → Type 0) (f : X → List Y) (xs : List X) → ((x : X) → All P (f x)) → All P (flat_map f xs)
All-flat_map P f [] each = All-nil P
All-flat_map P f (x ∷ xs) each = All-append P (f x) (flat_map f xs) (each x) (All-flat_map P f xs each)

-- ---- lists made of others

pub map-flat_map : {X Y Z : Type 0} (g : Y → Z) (f : X → List Y) (xs : List X) → map g (flat_map f xs) ≡ flat_map (λ x. map g (f x)) xs
map-flat_map g f [] = refl
map-flat_map g f (x ∷ xs) = map-append g (f x) (flat_map f xs) ∙ ap (λ l. map g (f x) ++ l) (map-flat_map g f xs)

pub flat_map_agree : {X Y : Type 0} (f g : X → List Y) → ((x : X) → f x ≡ g x) → (xs : List X) → flat_map f xs ≡ flat_map g xs
flat_map_agree f g same [] = refl
flat_map_agree f g same (x ∷ xs) = ap (λ l. l ++ flat_map f xs) (same x) ∙ ap (λ l. g x ++ l) (flat_map_agree f g same xs)

-- the elements by their numbers
pub map-get_or-range_with_len : {X : Type 0} (xs : List X) (d : X) → map (λ i. get_or xs i d) (range_with_len 0 (length xs)) ≡ xs
map-get_or-range_with_len xs d = sym (fill_by_all (λ i. get_or xs i d) xs (length xs) d refl (λ k within. refl))

-- ---- what is found

-- the first element that passes
pub record Found {X : Type 0} (p : X → Bool) (xs : List X) : Type 0 where
  pub item : X
  pub is : find p xs ≡ Some item
  pub passes : p item ≡ true
  pub there : Contains xs item

pub found : {X : Type 0} (p : X → Bool) (xs : List X) (x : X) → Contains xs x → p x ≡ true → Found p xs
found p [] x h passes = absurd (omega (arith, h.1))
found p (y ∷ ys) x h passes = elim (cases_Bool (p y)) [
  | inl first ↦ record { item = y; is = cond-true (p y) (Some y) (find p ys) first; passes = first; there = Contains-here y ys }
  | inr fails ↦
      elim (Contains-cases y ys x h) [
        | inl here ↦ absurd (both_ways (p y) fails (ap p here ∙ passes))
        | inr later ↦
            let rest = found p ys x later passes in
            record { item = rest.item; is = cond-false (p y) (Some y) (find p ys) fails ∙ rest.is; passes = rest.passes; there = Contains-later y ys rest.item rest.there }
      ]
]

-- if h gives the elements of a list at the numbers from n on
pub filter_map-range_with_len : {X : Type 0} (h : ℕ → Option X) (n : ℕ) (xs : List X) → ((k m : ℕ) (d : X) → k < length xs → n + k ≡ m → h m ≡ Some (get_or xs k d)) → filter_map h (range_with_len n (length xs)) ≡ xs
filter_map-range_with_len h n [] gives = refl
filter_map-range_with_len {X} h n (x ∷ xs) gives =
    ap (λ (o : Option X). cons_option o (filter_map h (range_with_len (n + 1) (length xs)))) (gives 0 n x (omega arith) (omega arith))
    ∙ ap (λ (l : List X). x ∷ l) (filter_map-range_with_len h (n + 1) xs (λ k m d within e. gives (suc k) m d (omega arith) (omega (arith, e))))

-- ---- pairs

pub AllPairs-from_map : {X Y : Type 0} (R : Y → Y → Type 0) (f : X → Y) (xs : List X) → AllPairs R (map f xs) → AllPairs (λ a b. R (f a) (f b)) xs
AllPairs-from_map R f xs h i j d lt within =
    subst (λ a. R a (f (get_or xs j d))) (get_or-map f xs i d (f d) (omega arith)) (
    subst (λ b. R (get_or (map f xs) i (f d)) b) (get_or-map f xs j d (f d) within) (h i j (f d) lt (omega (arith, length-map xs f)))
    )

pub IsStrictlyIncreasing-map : {X : Type 0} (f : X → ℕ) (xs : List X) (d : X) → AllPairs (λ a b. f a < f b) xs → IsStrictlyIncreasing (map f xs)
IsStrictlyIncreasing-map f xs d h k within =
    let fits : k + 1 < length xs = omega (arith, within, length-map xs f) in
    omega (arith, get_or-map f xs k d 0 (omega arith), get_or-map f xs (k + 1) d 0 fits, h k (k + 1) d (omega arith) fits)

-- ---- numbers that differ

-- elements at two places differ
abbrev Differ : List ℕ → Type 0
Differ xs = (i j : ℕ) → i < length xs → j < length xs → i ≢ j → get_or xs i 0 ≢ get_or xs j 0

-- where the element at k comes from if those at i and j are exchanged
exchanged : ℕ → ℕ → ℕ → ℕ
exchanged i j k = cond (eqb k i) j (cond (eqb k j) i k)

exchanged-below : (n i j k : ℕ) → i < n → j < n → k < n → exchanged i j k < n
unfolding exchanged
exchanged-below n i j k in-i in-j in-k = grind (arith, nat_tests)

exchanged-same : (i j k m : ℕ) → exchanged i j k ≡ exchanged i j m → k ≡ m
unfolding exchanged
exchanged-same i j k m same = grind (arith, nat_tests)

exchanged-second : (i j k : ℕ) → k ≡ j → exchanged i j k ≡ i
unfolding exchanged
exchanged-second i j k at = grind (arith, nat_tests)

exchanged-first : (i j k : ℕ) → k ≡ i → exchanged i j k ≡ j
unfolding exchanged
exchanged-first i j k at = grind (arith, nat_tests)

exchanged-other : (i j k : ℕ) → k ≢ i → k ≢ j → exchanged i j k ≡ k
unfolding exchanged
exchanged-other i j k off-i off-j = grind (arith, nat_tests)

get_or-swap : (xs : List ℕ) (i j k : ℕ) → i < length xs → j < length xs → k < length xs → get_or (swap xs i j) k 0 ≡ get_or xs (exchanged i j k) 0
get_or-swap xs i j k in-i in-j in-k =
    let x : ℕ = get_or xs i 0 in
    let y : ℕ = get_or xs j 0 in
    ap (λ l. get_or l k 0) (sym (swap_is xs i j 0 in-i in-j)) ∙ elim (cases_eq k j) [
      | inl second ↦
          ap (λ m. get_or (set (set xs i y) j x) m 0) second ∙ get_or-set_same (set xs i y) j x 0 (omega (arith, length-set xs i y)) ∙ ap (λ m. get_or xs m 0) (sym (exchanged-second i j k second))
      | inr off-j ↦
          get_or-set_other (set xs i y) j k x 0 off-j ∙ elim (cases_eq k i) [
            | inl first ↦ ap (λ m. get_or (set xs i y) m 0) first ∙ get_or-set_same xs i y 0 in-i ∙ ap (λ m. get_or xs m 0) (sym (exchanged-first i j k first))
            | inr off-i ↦ get_or-set_other xs i k y 0 off-i ∙ ap (λ m. get_or xs m 0) (sym (exchanged-other i j k off-i off-j))
          ]
    ]

Differ-swap : (xs : List ℕ) (i j : ℕ) → i < length xs → j < length xs → Differ xs → Differ (swap xs i j)
Differ-swap xs i j in-i in-j h k m in-k in-m apart same =
    let long : length (swap xs i j) ≡ length xs = length-swap xs i j in
    let k_in : k < length xs = omega arith in
    let m_in : m < length xs = omega arith in
    h (exchanged i j k) (exchanged i j m) (exchanged-below (length xs) i j k in-i in-j k_in) (exchanged-below (length xs) i j m in-i in-j m_in)
    (λ e. apart (exchanged-same i j k m e)) (sym (get_or-swap xs i j k in-i in-j k_in) ∙ same ∙ get_or-swap xs i j m in-i in-j m_in)

Differ-range_with_len : (n : ℕ) → Differ (range_with_len 0 n)
Differ-range_with_len n i j in-i in-j apart same =
    let i_in : i < n = omega (arith, in-i, length-range_with_len 0 n) in
    let j_in : j < n = omega (arith, in-j, length-range_with_len 0 n) in
    apart (omega (arith, same, get_or-range_with_len 0 n i 0 i_in, get_or-range_with_len 0 n j 0 j_in))

-- the numbers below n in any order differ
pub AllPairs-numbered : (n : ℕ) (xs : List ℕ) → IsPermutation (range_with_len 0 n) xs → AllPairs (λ (a b : ℕ). a ≢ b) xs
AllPairs-numbered n xs numbered i j d lt within same =
    IsPermutation-keeps (range_with_len 0 n) Differ (Differ-range_with_len n) (λ l a b in-a in-b h. Differ-swap l a b in-a in-b h) xs numbered i j (omega arith) within (omega arith)
    (get_or_default xs i 0 d (omega arith) ∙ same ∙ get_or_default xs j d 0 within)

-- ---- lists that rise

-- a list whose keys rise is one with the same elements whose keys rise too
pub same_from_rising : {X : Type 0} (n : X → ℕ) (xs ys : List X) → AllPairs (λ a b. n a < n b) xs → AllPairs (λ a b. n a < n b) ys → All (Contains ys) xs → All (Contains xs) ys → xs ≡ ys
same_from_rising n [] [] rise_x rise_y x_in_y y_in_x = refl
same_from_rising n [] (y ∷ ys) rise_x rise_y x_in_y y_in_x = absurd (omega (arith, (y_in_x 0 y (omega arith)).1))
same_from_rising n (x ∷ xs) [] rise_x rise_y x_in_y y_in_x = absurd (omega (arith, (x_in_y 0 x (omega arith)).1))
same_from_rising {X} n (x ∷ xs) (y ∷ ys) rise_x rise_y x_in_y y_in_x =
    let R : X → X → Type 0 = λ a b. n a < n b in
    let above_x = AllPairs-head R x xs rise_x in
    let above_y = AllPairs-head R y ys rise_y in
    let first : x ≡ y = elim (Contains-cases y ys x (x_in_y 0 x (omega arith))) [
      | inl same ↦ sym same
      | inr later ↦ elim (Contains-cases x xs y (y_in_x 0 y (omega arith))) [
        | inl same ↦ same
        | inr also ↦ absurd (omega (arith, All-contains (R y) ys x above_y later, All-contains (R x) xs y above_x also))
      ]
    ] in
    let level : n x ≡ n y = ap n first in
    ap (λ a. a ∷ xs) first ∙ ap (λ l. y ∷ l) (
    same_from_rising n xs ys (AllPairs-tail R x xs rise_x) (AllPairs-tail R y ys rise_y)
    (λ k d within. elim (Contains-cases y ys (get_or xs k d) (x_in_y (suc k) d (omega arith))) [
      | inl same ↦ absurd (omega (arith, ap n same, level, above_x k d within))
      | inr later ↦ later
    ])
    (λ k d within. elim (Contains-cases x xs (get_or ys k d) (y_in_x (suc k) d (omega arith))) [
      | inl same ↦ absurd (omega (arith, ap n same, level, above_y k d within))
      | inr later ↦ later
    ])
    )
