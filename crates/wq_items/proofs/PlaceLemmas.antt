-- Places of targets: they rise if new ones come after old ones.
use Rattle.std.proofs.Common.{◌≡◌, ℕ, zero, suc, ◌+◌, ◌-◌, ◌<◌, ◌≤◌, inl, inr, List, [], ◌∷◌, ◌++◌, length, map, get_or, set, refl, subst, arith}
use Rattle.std.specs.Prelude.{IsPermutation}
use Rattle.std.specs.List.{All, range_with_len, flat_map}
use Rattle.std.specs.List.Sorted.{IsStrictlyIncreasing}
use Rattle.std.proofs.lemmas.Bool.{cases_lt}
use Rattle.std.proofs.lemmas.List.{length-append, get_or_append_left, get_or-append_right, get_or-append-add, map-append}
use Rattle.std.proofs.lemmas.List.Elements.{All-get_or, All-set}
use Rattle.std.proofs.lemmas.List.FromFn.{length-range_with_len, get_or-range_with_len}
use Rattle.std.proofs.lemmas.List.Sorted.{All-permutation}
use Rattle.wq_items.specs.declared.target.Target.{Target}
use Rattle.wq_items.specs.Table.{PlacesRise, targets_of, places}
use Rattle.wq_items.proofs.Lists.{range_with_len-below}

-- ---- numbers that rise

pub IsStrictlyIncreasing-append : (xs ys : List ℕ) (n : ℕ) → IsStrictlyIncreasing xs → All (λ x. x < n) xs → IsStrictlyIncreasing ys → All (λ y. n ≤ y) ys → IsStrictlyIncreasing (xs ++ ys)
IsStrictlyIncreasing-append xs ys n rise low later high k within = elim (cases_lt (k + 1) (length xs)) [
  | inl inside ↦ rw (get_or_append_left xs ys 0 k (omega arith), get_or_append_left xs ys 0 (k + 1) inside) (rise k inside)
  | inr past ↦
      let m = k + 1 - length xs in
      let fits : m < length ys = omega (arith, within, length-append xs ys) in
      elim (cases_lt k (length xs)) [
        | inl last ↦
            let below : get_or xs k 0 < n = low k 0 last in
            let above : n ≤ get_or ys m 0 = high m 0 fits in
            rw (get_or_append_left xs ys 0 k last, get_or-append_right xs ys (length xs) (k + 1) 0 refl past) (omega arith)
        | inr after ↦
            let next : m ≡ k - length xs + 1 = omega arith in
            rw (get_or-append_right xs ys (length xs) k 0 refl after, get_or-append_right xs ys (length xs) (k + 1) 0 refl past, next) (later (k - length xs) (omega arith))
      ]
]

pub IsStrictlyIncreasing-range_with_len : (a n : ℕ) → IsStrictlyIncreasing (range_with_len a n)
IsStrictlyIncreasing-range_with_len a n k within =
    let fits : k + 1 < n = omega (arith, within, length-range_with_len a n) in
    rw (get_or-range_with_len a n k 0 (omega arith), get_or-range_with_len a n (k + 1) 0 fits) (omega arith)

range_with_len-from : (a n : ℕ) → All (λ p. a ≤ p) (range_with_len a n)
range_with_len-from a n k d within = rw (get_or-range_with_len a n k d (omega (arith, within, length-range_with_len a n))) (omega arith)

-- ---- the places of an item

All-flat_map : {X Y : Type 0} (P : Y → Type 0) (f : X → List Y) (xs : List X) (i : ℕ) (x : X) → i < length xs → All P (flat_map f xs) → All P (f (get_or xs i x))
All-flat_map P f [] i x lt each = absurd (omega arith)
All-flat_map P f (y ∷ ys) zero x lt each = λ k d fits. subst P (get_or_append_left (f y) (flat_map f ys) d k fits) (each k d (omega (arith, fits, length-append (f y) (flat_map f ys))))
All-flat_map P f (y ∷ ys) (suc i) x lt each =
    All-flat_map P f ys i x (omega arith) (λ k d fits. subst P (get_or-append-add (f y) (flat_map f ys) k d) (each (length (f y) + k) d (omega (arith, fits, length-append (f y) (flat_map f ys)))))

-- if the places are the numbers below n, so are those of each item
pub places-below : (n : ℕ) (waits : List (List Target)) (i : ℕ) → i < length waits → IsPermutation (range_with_len 0 n) (places waits) → All (λ p. p < n) (map (λ (t : Target). t.place) (targets_of waits i))
places-below n waits i lt numbered =
    All-flat_map (λ p. p < n) (λ (targets : List Target). map (λ (t : Target). t.place) targets) waits i [] lt
    (All-permutation (λ p. p < n) (range_with_len 0 n) (places waits) numbered (range_with_len-below n))

-- targets at the places from n on come after those of an item
pub PlacesRise-set : (n : ℕ) (waits : List (List Target)) (i len : ℕ) (more : List Target) → i < length waits → IsPermutation (range_with_len 0 n) (places waits) → map (λ (t : Target). t.place) more ≡ range_with_len n len
    → All PlacesRise waits → All PlacesRise (set waits i (targets_of waits i ++ more))
PlacesRise-set n waits i len more lt numbered added rise =
    let old = map (λ (t : Target). t.place) (targets_of waits i) in
    let joined : IsStrictlyIncreasing (old ++ range_with_len n len) =
    IsStrictlyIncreasing-append old (range_with_len n len) n (All-get_or PlacesRise waits i [] lt rise) (places-below n waits i lt numbered) (IsStrictlyIncreasing-range_with_len n len) (range_with_len-from n len) in
    All-set PlacesRise waits i (targets_of waits i ++ more) (rw (map-append (λ (t : Target). t.place) (targets_of waits i) more, added) joined) rise
