-- A declared flush is known by its place.
use Rattle.std.proofs.Common.{◌≡◌, ◌≢◌, ℕ, zero, suc, ◌+◌, ◌-◌, ◌<◌, inl, inr, eqb, List, [], ◌∷◌, ◌++◌, length, map, get_or, refl, sym, ap, subst, ◌∙◌, arith}
use Rattle.std.specs.Prelude.{Contains, IsPermutation}
use Rattle.std.specs.List.{IsDistinct, range_with_len}
use Rattle.std.proofs.lemmas.Bool.{cases_eq, cases_order, ne_eqb, eqb-false}
use Rattle.std.proofs.lemmas.List.{length-map, length-append, get_or-map, get_or_append_left, get_or-append_right, get_or_default}
use Rattle.std.proofs.lemmas.List.Elements.{Contains-append_left, Contains-append_right}
use Rattle.std.proofs.lemmas.List.FromFn.{length-range_with_len, get_or-range_with_len}
use Rattle.std.proofs.lemmas.List.Kept.{AllPairs-from_increasing}
use Rattle.std.proofs.lemmas.Map.Keys.{IsDistinct-from_apart, IsDistinct-IsPermutation, apart_from_distinct}
use Rattle.wq_items.specs.declared.target.Target.{Target}
use Rattle.wq_items.specs.Table.{PlacesRise, targets_of, places, flush_count}
use Rattle.wq_items.proofs.Tables.{targets_of-rise}
use Rattle.wq_groups.specs.Declaration.{Declaration, IsDeclaration}
use Rattle.wq_checker.specs.Falling.{Declares}

-- ---- numbers that differ

-- numbers at two places differ
abbrev Apart : List ℕ → Type 0
Apart xs = (i j : ℕ) → i < j → j < length xs → get_or xs i 0 ≢ get_or xs j 0

eqb-flips : (x y : ℕ) → eqb x y ≡ eqb y x
eqb-flips x y = elim (cases_eq x y) [
  | inl same ↦ ap (λ (z : ℕ). eqb x z) (sym same) ∙ ap (λ (z : ℕ). eqb z x) same
  | inr other ↦ ne_eqb x y other ∙ sym (ne_eqb y x (λ e. other (sym e)))
]

Apart-numbered : (n : ℕ) (xs : List ℕ) → IsPermutation (range_with_len 0 n) xs → Apart xs
Apart-numbered n xs numbered =
    let first : IsDistinct eqb (range_with_len 0 n) = IsDistinct-from_apart eqb (range_with_len 0 n) (λ i j d less within.
    let fits : j < n = omega (arith, within, length-range_with_len 0 n) in
    ne_eqb (get_or (range_with_len 0 n) i d) (get_or (range_with_len 0 n) j d) (λ e. absurd (omega (arith, e, less, get_or-range_with_len 0 n i d (omega arith), get_or-range_with_len 0 n j d fits)))) in
    let distinct : IsDistinct eqb xs = IsDistinct-IsPermutation eqb eqb-flips (range_with_len 0 n) xs numbered first in
    λ i j less within. eqb-false (get_or xs i 0) (get_or xs j 0) (apart_from_distinct eqb xs i j 0 distinct less within)

module _ (xs ys : List ℕ) (apart : Apart (xs ++ ys)) where
  right_at : (j : ℕ) → get_or (xs ++ ys) (length xs + j) 0 ≡ get_or ys j 0
  right_at j = get_or-append_right xs ys (length xs) (length xs + j) 0 refl (omega arith) ∙ ap (λ (k : ℕ). get_or ys k 0) (let e : length xs + j - length xs ≡ j = omega arith in e)

  Apart-right : Apart ys
  Apart-right i j less within same =
      apart (length xs + i) (length xs + j) (omega arith) (omega (arith, length-append xs ys, within)) (right_at i ∙ same ∙ sym (right_at j))

  Apart-across : (x : ℕ) → Contains xs x → ¬ Contains ys x
  Apart-across x one other =
      apart one.0 (length xs + other.0) (omega (arith, one.1)) (omega (arith, length-append xs ys, other.1))
      (get_or_append_left xs ys 0 one.0 one.1 ∙ get_or_default xs one.0 0 x one.1 ∙ one.2 ∙ sym (right_at other.0 ∙ get_or_default ys other.0 0 x other.1 ∙ other.2))

-- ---- places

abbrev own_places : List Target → List ℕ
own_places targets = map (λ (t : Target). t.place) targets

place_among : (targets : List Target) (t : Target) → Contains targets t → Contains (own_places targets) t.place
place_among targets t there =
    (there.0, omega (arith, there.1, length-map targets (λ (x : Target). x.place)), get_or-map (λ (x : Target). x.place) targets there.0 t t.place there.1 ∙ ap (λ (x : Target). x.place) there.2)

place_there : (waits : List (List Target)) (i : ℕ) (t : Target) → Contains (targets_of waits i) t → Contains (places waits) t.place
place_there [] i t there = absurd (omega (arith, there.1))
place_there (targets ∷ waits) zero t there = Contains-append_left (own_places targets) (places waits) t.place (place_among targets t there)
place_there (targets ∷ waits) (suc i) t there = Contains-append_right (own_places targets) (places waits) t.place (place_there waits i t there)

-- flushes at the same place are by the same item
same_item : (waits : List (List Target)) → Apart (places waits) → (i j : ℕ) (t u : Target) → Contains (targets_of waits i) t → Contains (targets_of waits j) u → t.place ≡ u.place → i ≡ j
same_item [] apart i j t u one other same = absurd (omega (arith, one.1))
same_item (targets ∷ waits) apart zero zero t u one other same = refl
same_item (targets ∷ waits) apart zero (suc j) t u one other same =
    absurd (Apart-across (own_places targets) (places waits) apart u.place (subst (Contains (own_places targets)) same (place_among targets t one)) (place_there waits j u other))
same_item (targets ∷ waits) apart (suc i) zero t u one other same =
    absurd (Apart-across (own_places targets) (places waits) apart t.place (subst (Contains (own_places targets)) (sym same) (place_among targets u other)) (place_there waits i t one))
same_item (targets ∷ waits) apart (suc i) (suc j) t u one other same = ap suc (same_item waits (Apart-right (own_places targets) (places waits) apart) i j t u one other same)

-- and of the same target
rises : (targets : List Target) (m n : ℕ) (t u : Target) → PlacesRise targets → m < n → n < length targets → (get_or targets m t).place < (get_or targets n u).place
rises targets m n t u rise less fits =
    omega (
      arith,
      get_or-map (λ (x : Target). x.place) targets m t 0 (omega arith),
      get_or-map (λ (x : Target). x.place) targets n u 0 fits,
      AllPairs-from_increasing (own_places targets) rise m n 0 less (omega (arith, length-map targets (λ (x : Target). x.place))),
    )

same_target : (targets : List Target) (t u : Target) → PlacesRise targets → Contains targets t → Contains targets u → t.place ≡ u.place → t ≡ u
same_target targets t u rise one other same =
    let m : ℕ = one.0 in
    let n : ℕ = other.0 in
    let left : (get_or targets m t).place ≡ t.place = ap (λ (x : Target). x.place) one.2 in
    let right : (get_or targets n u).place ≡ u.place = ap (λ (x : Target). x.place) other.2 in
    elim (cases_order m n) [
      | inl at ↦ sym one.2 ∙ get_or_default targets m t u one.1 ∙ ap (λ (k : ℕ). get_or targets k u) at ∙ other.2
      | inr (inl less) ↦ absurd (omega (arith, left, right, same, rises targets m n t u rise less other.1))
      | inr (inr less) ↦ absurd (omega (arith, left, right, same, rises targets n m u t rise less one.1))
    ]

pub same_flush : (d : Declaration) → IsDeclaration d → (i j : ℕ) (t u : Target) → Declares d i t → Declares d j u → t.place ≡ u.place → (i ≡ j) × (t ≡ u)
same_flush d is i j t u one other same =
    let item : i ≡ j = same_item d.waits (Apart-numbered (flush_count d.waits) (places d.waits) is.places_are_numbered) i j t u one other same in
    (item, same_target (targets_of d.waits j) t u (targets_of-rise d.waits j is.places_rise) (subst (λ (k : ℕ). Declares d k t) item one) other same)
