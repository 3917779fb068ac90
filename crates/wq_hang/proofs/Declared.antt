-- What is declared is of items, and what a hop costs.
use Rattle.std.proofs.Common.{◌≡◌, ◌≢◌, ℕ, zero, suc, ◌+◌, ◌<◌, ◌≤◌, ◌⊎◌, inl, inr, Bool, true, false, eqb, List, []}
use Rattle.std.proofs.Common.{◌∷◌}
use Rattle.std.proofs.Common.{length, refl, ap, subst, ◌∙◌, arith}
use Rattle.std.specs.Prelude.{Contains, if◌then◌else◌, ◌||◌, not}
use Rattle.std.specs.List.{list_any}
use Rattle.std.proofs.lemmas.Bool.{cases_lt, eqb-true, eq-eqb, both_ways}
use Rattle.std.proofs.lemmas.List.{get_or_past}
use Rattle.wq_items.specs.declared.target.Target.{Target}
use Rattle.wq_items.proofs.Tables.{targets_of-below}
use Rattle.wq_core.specs.Wiring.{Wiring, IsWiring, items, declared_by}
use Rattle.wq_hang.specs.declared.hop.Hop.{Hop}
use Rattle.wq_hang.specs.Walk.{IsPath, target_beside, unsure_part}
use Rattle.wq_hang.specs.Search.{hop_cost, least_hop}

pub declared-item : (w : Wiring) (i : ℕ) (t : Target) → Contains (declared_by w i) t → i < items w
declared-item w i t there = elim (cases_lt i (items w)) [
  | inl within ↦ within
  | inr past ↦ (
      let none : length (declared_by w i) ≡ 0 = ap (λ (ts : List Target). length ts) (get_or_past w.waits i [] past) in
      absurd (omega (arith, there.1, none))
      )
]

pub declared-target : (w : Wiring) (i : ℕ) (t : Target) → IsWiring w → Contains (declared_by w i) t → t.item < items w
declared-target w i t wiring (k, lt, at) =
    subst (λ (u : Target). u.item < items w) at (targets_of-below (items w) w.waits i wiring.targets_are_items k t lt)

-- the first item of a path by one hop or more declares a flush
pub path_declares : (w : Wiring) (i j : ℕ) (hops : List Hop) → 0 < length hops → IsPath w i hops j
    → 0 < length (declared_by w i)
path_declares w i j [] some path = absurd (omega arith)
path_declares w i j (h ∷ hops) some path =
    subst (λ (k : ℕ). 0 < length (declared_by w k)) path.0 (omega (arith, path.1.declared.1))

pub beside_cases : (h : Hop) → ((target_beside h ≡ []) × (h.flush.whole ≡ false → h.flush.item ≡ h.next)) ⊎ ((target_beside h ≡ h.flush.item ∷ []) × (h.flush.item ≢ h.next))
beside_cases h = by h.flush.whole (eqb h.flush.item h.next) refl refl
  where
    by : (whole same : Bool) → h.flush.whole ≡ whole → eqb h.flush.item h.next ≡ same
        → (((if whole || same then [] else h.flush.item ∷ []) ≡ []) × (h.flush.whole ≡ false → h.flush.item ≡ h.next)) ⊎ (((if whole || same then [] else h.flush.item ∷ []) ≡ h.flush.item ∷ []) × (h.flush.item ≢ h.next))
    by true same kind test = inl (refl, λ one. absurd (both_ways h.flush.whole one kind))
    by false true kind test = inl (refl, λ one. eqb-true h.flush.item h.next test)
    by false false kind test = inr (refl, λ is. both_ways (eqb h.flush.item h.next) test (eq-eqb h.flush.item h.next is))

pub target_beside-most : (h : Hop) → length (target_beside h) ≤ 1
target_beside-most h = by (h.flush.whole || eqb h.flush.item h.next)
  where
    by : (b : Bool) → length (if b then [] else h.flush.item ∷ []) ≤ 1
    by true = omega arith
    by false = omega arith

pub unsure_part-most : (t : Target) → unsure_part t ≤ 32768
unsure_part-most t = by t.unsure
  where
    by : (b : Bool) → (if b then 32768 else 0) ≤ 32768
    by true = omega arith
    by false = omega arith

-- ---- what each hop of an item costs at least

any_has : {X : Type 0} (p : X → Bool) (xs : List X) (x : X) → Contains xs x → p x ≡ true → list_any p xs ≡ true
any_has p [] x there passes = absurd (omega (arith, there.1))
any_has {X} p (y ∷ ys) x (zero, lt, at) passes = ap (λ (b : Bool). b || list_any p ys) (ap p at ∙ passes)
any_has {X} p (y ∷ ys) x (suc k, lt, at) passes = by (p y) (any_has p ys x (k, omega arith, at) passes)
  where
    by : (b : Bool) → list_any p ys ≡ true → (b || list_any p ys) ≡ true
    by true later = refl
    by false later = later

pub least_hop-enough : (w : Wiring) (h : Hop) → Contains (declared_by w h.item) h.flush
    → least_hop w h.item ≤ hop_cost h
least_hop-enough w h there = by h.flush.unsure refl
    (list_any (λ (t : Target). not t.unsure) (declared_by w h.item)) refl
  where
    by : (u : Bool) → h.flush.unsure ≡ u → (any : Bool)
        → list_any (λ (t : Target). not t.unsure) (declared_by w h.item) ≡ any
        → (if any then 3 else 32768 + 3) ≤ (if u then 32768 else 0) + (3 + length (target_beside h))
    by true is true some = omega arith
    by true is false some = omega arith
    by false is true some = omega arith
    by false is false some =
        absurd (both_ways (list_any (λ (t : Target). not t.unsure) (declared_by w h.item)) some
        (any_has (λ (t : Target). not t.unsure) (declared_by w h.item) h.flush there (ap not is)))
