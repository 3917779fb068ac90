-- Lists of numbers: what is where, and what is there once.
use Rattle.std.proofs.Common.{◌≡◌, ℕ, ◌+◌, ◌<◌, ◌≤◌, ◌⊎◌, inl, inr, List, [], ◌∷◌, ◌++◌, length, take, slice_index, sym, ◌∙◌, subst, arith}
use Rattle.std.specs.Prelude.{Contains, All}
use Rattle.std.proofs.lemmas.Bool.{cases_eq, cases_lt}
use Rattle.std.proofs.lemmas.List.{length-append, length-take-le, get_or_append_left, get_or-append-add, get_or_push, get_or_default, get_or-take}
use Rattle.std.proofs.lemmas.List.Elements.{Contains-get_or}
use Rattle.wq_items.specs.Chain.{Repeats}
use Rattle.wq_items.proofs.Lists.{Contains-here, Contains-later}
use Rattle.wq_items.proofs.Pigeonhole.{repeats_from_length}
use Rattle.wq_graph.proofs.ListLemmas.{Contains-cases}

-- where an element is
pub place-of : (xs : List ℕ) (u : ℕ) → Contains xs u → (k : ℕ) × (k < length xs) × (slice_index xs k ≡ u)
place-of xs u at = (at.0, at.1, get_or_default xs at.0 0 u at.1 ∙ at.2)

-- a number is an element or not
pub contains_or_not : (xs : List ℕ) (u : ℕ) → Contains xs u ⊎ (¬ Contains xs u)
contains_or_not [] u = inr (λ has. omega (arith, has.1))
contains_or_not (x ∷ xs) u = go (cases_eq x u) (contains_or_not xs u) where
  go : ((x ≡ u) ⊎ (x ≡ u → ⊥)) → (Contains xs u ⊎ (¬ Contains xs u)) → Contains (x ∷ xs) u ⊎ (¬ Contains (x ∷ xs) u)
  go (inl same) later = inl (subst (Contains (x ∷ xs)) same (Contains-here x xs))
  go (inr other) (inl later) = inl (Contains-later x xs u later)
  go (inr other) (inr none) = inr (λ has. elim (Contains-cases x xs u has) [ inl same ↦ other same | inr later ↦ none later ])

-- there are at most n different numbers below n
pub at_most : (n : ℕ) (xs : List ℕ) → All (λ x. x < n) xs → ¬ Repeats xs → length xs ≤ n
at_most n xs below once = elim (cases_lt n (length xs)) [
  | inl long ↦ absurd (once (repeats_from_length n xs below long))
  | inr le ↦ le
]

-- each has one place
pub same_place : (xs : List ℕ) (i j : ℕ) → ¬ Repeats xs → i < length xs → j < length xs → slice_index xs i ≡ slice_index xs j → i ≡ j
same_place xs i j once i_in j_in same = elim (cases_lt i j) [
  | inl less ↦ absurd (once (i, j, less, j_in, same))
  | inr le ↦ elim (cases_lt j i) [ inl less ↦ absurd (once (j, i, less, i_in, sym same)) | inr ge ↦ omega (arith, le, ge) ]
]

-- another number is added at the end
pub once_push : (xs : List ℕ) (w : ℕ) → ¬ Repeats xs → ¬ Contains xs w → ¬ Repeats (xs ++ (w ∷ []))
once_push xs w once new (i, j, less, upto, same) = go (cases_lt j (length xs)) where
  i_is : slice_index (xs ++ (w ∷ [])) i ≡ slice_index xs i
  i_is = get_or_append_left xs (w ∷ []) 0 i (omega (arith, less, upto, length-append xs (w ∷ [])))

  go : ((j < length xs) ⊎ (length xs ≤ j)) → ⊥
  go (inl before) = once (i, j, less, before, sym i_is ∙ same ∙ get_or_append_left xs (w ∷ []) 0 j before)
  go (inr last) =
      let at : j ≡ length xs = omega (arith, last, upto, length-append xs (w ∷ [])) in
      let is : slice_index (xs ++ (w ∷ [])) j ≡ w = get_or_push xs w 0 j (sym at) in
      new (subst (Contains xs) (sym i_is ∙ same ∙ is) (Contains-get_or xs i 0 (omega (arith, less, at))))

-- what is in one part isn't in the other
pub once_apart : (xs ys : List ℕ) (u : ℕ) → ¬ Repeats (xs ++ ys) → Contains xs u → ¬ Contains ys u
once_apart xs ys u once first second =
    let i = place-of xs u first in
    let j = place-of ys u second in
    let i_is : slice_index (xs ++ ys) i.0 ≡ u = get_or_append_left xs ys 0 i.0 i.1 ∙ i.2 in
    let j_is : slice_index (xs ++ ys) (length xs + j.0) ≡ u = get_or-append-add xs ys j.0 0 ∙ j.2 in
    once (i.0, length xs + j.0, omega (arith, i.1), omega (arith, j.1, length-append xs ys), i_is ∙ sym j_is)

-- ---- the first n places

pub once_take : (n : ℕ) (xs : List ℕ) → n ≤ length xs → ¬ Repeats xs → ¬ Repeats (take n xs)
once_take n xs le once (i, j, less, upto, same) =
    let long : length (take n xs) ≡ n = length-take-le n xs le in
    let j_in : j < n = omega (arith, upto, long) in
    once (i, j, less, omega (arith, j_in, le), sym (get_or-take n xs i 0 (omega (arith, less, j_in))) ∙ same ∙ get_or-take n xs j 0 j_in)

pub Contains-from_take : (n : ℕ) (xs : List ℕ) (u : ℕ) → n ≤ length xs → Contains (take n xs) u → (k : ℕ) × (k < n) × (slice_index xs k ≡ u)
Contains-from_take n xs u le has =
    let at = place-of (take n xs) u has in
    let within : at.0 < n = omega (arith, at.1, length-take-le n xs le) in
    (at.0, within, sym (get_or-take n xs at.0 0 within) ∙ at.2)

pub Contains-take : (n : ℕ) (xs : List ℕ) (k u : ℕ) → n ≤ length xs → k < n → slice_index xs k ≡ u → Contains (take n xs) u
Contains-take n xs k u le lt is =
    subst (Contains (take n xs)) (get_or-take n xs k 0 lt ∙ is) (Contains-get_or (take n xs) k 0 (omega (arith, lt, length-take-le n xs le)))
