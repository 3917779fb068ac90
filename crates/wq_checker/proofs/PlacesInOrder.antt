-- Where each workqueue comes first in an order.
use Rattle.std.proofs.Common.{◌≡◌, ◌≢◌, ℕ, ◌<◌, ◌≤◌, inl, inr, ltb, eqb, List, length, get_or, map, Option, Some, None}
use Rattle.std.proofs.Common.{sym, ap, subst, ◌∙◌, arith}
use Rattle.std.specs.Prelude.{unwrap_or}
use Rattle.std.specs.List.{position_or_len, range_with_len}
use Rattle.std.proofs.lemmas.Bool.{cases_eq, cases_lt, eq-eqb, ne_eqb, lt-ltb, le-ltb, cond-true, cond-false}
use Rattle.std.proofs.lemmas.List.FromFn.{fill_by_all}
use Rattle.std.proofs.lemmas.List.Sums.{position_or_len_is}
use Rattle.wq_checker.specs.Around.{place_in}

-- of the places below n of the order, p is the first that has lane q; if none has it, p is past the end of the order
pub record IsPlaceBelow (order : List ℕ) (n q p : ℕ) : Type 0 where
  pub before : (k : ℕ) → k < n → k < p → get_or order k 0 ≢ q
  pub at : p < n → get_or order p 0 ≡ q
  pub there : p ≢ length order → p < n

module _ (order : List ℕ) where
  place_in-position : (q p : ℕ) → p ≤ length order → position_or_len (λ x. eqb x q) order ≡ p → place_in order q ≡ p
  place_in-position q p few is = elim (cases_lt p (length order)) [
    | inl less ↦
        ap (λ (o : Option ℕ). unwrap_or o (length order))
        (cond-true (ltb (position_or_len (λ x. eqb x q) order) (length order))
        (Some (position_or_len (λ x. eqb x q) order)) None
        (lt-ltb (position_or_len (λ x. eqb x q) order) (length order) (omega (arith, is, less))))
        ∙ is
    | inr not_less ↦
        ap (λ (o : Option ℕ). unwrap_or o (length order))
        (cond-false (ltb (position_or_len (λ x. eqb x q) order) (length order))
        (Some (position_or_len (λ x. eqb x q) order)) None
        (le-ltb (position_or_len (λ x. eqb x q) order) (length order) (omega (arith, is, not_less))))
        ∙ (let end : length order ≡ p = omega (arith, few, not_less) in end)
  ]

  -- of all places
  place_in-is : (q p : ℕ) → IsPlaceBelow order (length order) q p → place_in order q ≡ p
  place_in-is q p place =
      let few : p ≤ length order = elim (cases_eq p (length order)) [
        | inl end ↦ omega (arith, end)
        | inr differs ↦ (let less : p < length order = place.there differs in omega (arith, less))
      ] in
      place_in-position q p few
      (position_or_len_is (λ x. eqb x q) order p 0 few
      (λ k less. ne_eqb (get_or order k 0) q (place.before k (omega (arith, less, few)) less))
      (λ less. eq-eqb (get_or order p 0) q (place.at less)))

-- ---- the places of all lanes, as they are found

-- of each of this many lanes
abbrev pub ArePlacesBelow : List ℕ → ℕ → ℕ → List ℕ → Type 0
ArePlacesBelow order lanes n places = (q : ℕ) → q < lanes → IsPlaceBelow order n q (get_or places q 0)

pub places-all : (order : List ℕ) (lanes n : ℕ) (places : List ℕ) → n ≡ length order → length places ≡ lanes
    → ArePlacesBelow order lanes n places → places ≡ map (place_in order) (range_with_len 0 lanes)
places-all order lanes n places all long placed =
    fill_by_all (place_in order) places lanes 0 long
    (λ k less. sym
    (place_in-is order k (get_or places k 0)
    (subst (λ (m : ℕ). IsPlaceBelow order m k (get_or places k 0)) all (placed k less))))
