-- Lists of anything: what they contain, and in which order; and the numbers below n.
use Rattle.std.proofs.Common.{◌≡◌, ℕ, zero, suc, ◌<◌, Bool, true, List, [], ◌∷◌, Some, refl, sym, ap, subst, ◌∙◌, arith}
use Rattle.std.specs.Prelude.{AllPairs, Contains, slice_get, filter}
use Rattle.std.specs.List.{All, range_with_len}
use Rattle.std.proofs.lemmas.Bool.{cond-true, cond_both}
use Rattle.std.proofs.lemmas.List.FromFn.{get_or-range_with_len, length-range_with_len}

-- ---- elements

pub Contains-here : {X : Type 0} (x : X) (xs : List X) → Contains (x ∷ xs) x
Contains-here x xs = (0, omega arith, refl)

pub Contains-later : {X : Type 0} (y : X) (xs : List X) (x : X) → Contains xs x → Contains (y ∷ xs) x
Contains-later y xs x (k, within, is) = (suc k, omega arith, is)

pub Contains-first : {X : Type 0} (xs : List X) (x : X) → slice_get xs 0 ≡ Some x → Contains xs x
Contains-first [] x is = absurd cc
Contains-first (y ∷ ys) x is = (0, omega arith, cc)

-- an element that passes stays
pub Contains-filtered : {X : Type 0} (p : X → Bool) (xs : List X) (x : X) → p x ≡ true → Contains xs x → Contains (filter p xs) x
Contains-filtered p [] x passes (k, within, is) = absurd (omega arith)
Contains-filtered {X} p (y ∷ ys) x passes (zero, within, is) =
    let here : p y ≡ true = ap p is ∙ passes in
    subst (λ (zs : List X). Contains zs x) (sym (cond-true (p y) (y ∷ filter p ys) (filter p ys) here)) (0, omega arith, is)
Contains-filtered {X} p (y ∷ ys) x passes (suc k, within, is) =
    let later : Contains (filter p ys) x = Contains-filtered p ys x passes (k, omega arith, is) in
    cond_both (p y) (y ∷ filter p ys) (filter p ys) (λ (zs : List X). Contains zs x) (λ _. Contains-later y (filter p ys) x later) (λ _. later)

-- ---- pairs

pub AllPairs-head : {X : Type 0} (R : X → X → Type 0) (x : X) (xs : List X) → AllPairs R (x ∷ xs) → All (R x) xs
AllPairs-head R x xs h k d within = h 0 (suc k) d (omega arith) (omega arith)

pub AllPairs-tail : {X : Type 0} (R : X → X → Type 0) (x : X) (xs : List X) → AllPairs R (x ∷ xs) → AllPairs R xs
AllPairs-tail R x xs h i j d lt within = h (suc i) (suc j) d (omega arith) (omega arith)

-- ---- the numbers below n

pub Contains-range_with_len : (n i : ℕ) → i < n → Contains (range_with_len 0 n) i
Contains-range_with_len n i lt = (i, omega (arith, length-range_with_len 0 n), omega (arith, get_or-range_with_len 0 n i i lt))

pub range_with_len-below : (n : ℕ) → All (λ i. i < n) (range_with_len 0 n)
range_with_len-below n k d within =
    let fits : k < n = omega (arith, within, length-range_with_len 0 n) in
    omega (arith, get_or-range_with_len 0 n k d fits)
