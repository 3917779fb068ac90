-- A list of numbers, each once, and marks of those that are on it.
use Rattle.std.proofs.Common.{◌≡◌, ◌≢◌, ℕ, ◌<◌, ◌⊎◌, inl, inr, Bool, true, false, cond, List, [], ◌∷◌, ◌++◌, length}
use Rattle.std.proofs.Common.{zero, suc, ◌+◌, take, set, get_or, refl, sym, ap, subst, ◌∙◌, arith}
use Rattle.std.specs.Prelude.{flat_map, slice_index_or, slice_get, unwrap_or, if◌then◌else◌, ◌==◌, IfSome, IfNone}
use Rattle.std.specs.Prelude.{Option, Some, None}
use Rattle.std.proofs.lemmas.Bool.{cases_eq}
use Rattle.std.proofs.lemmas.List.{append-nil, append_assoc, get_or-set_same}
use Rattle.std.proofs.lemmas.List.{get_or-set_other, length-set}
use Rattle.wq_hang.specs.declared.hop.Hop.{Hop}
use Rattle.wq_hang.specs.WalkFor.{named_beside, once}
use Rattle.wq_hang.specs.EndsFor.{first_or}
use Rattle.wq_hang.specs.WaysFor.{IsPushedOnce}
use Rattle.wq_hang.proofs.Apart.{Avoids, In, cases_In, not_in, In-append_left, In-append_right}
use Rattle.wq_hang.proofs.Once.{once-again, once-new}

-- of the numbers below n those are marked that are among these; and the list has these, each once
pub record AreOnce (n : ℕ) (marks : List Bool) (list xs : List ℕ) : Type 0 where
  pub size : length marks ≡ n
  pub marked : (i : ℕ) → i < n → slice_index_or marks i false ≡ true → In i xs
  pub all : (i : ℕ) → i < n → In i xs → slice_index_or marks i false ≡ true
  pub is : list ≡ once xs

module _ (n : ℕ) (marks : List Bool) (list xs : List ℕ) (are : AreOnce n marks list xs) where
  -- one more is pushed, unless it is marked
  pub AreOnce-pushed : (i : ℕ) (new_marks : List Bool) (new_list : List ℕ) → i < n
      → IsPushedOnce i marks list new_marks new_list → AreOnce n new_marks new_list (xs ++ (i ∷ []))
  AreOnce-pushed i new_marks new_list below pushed = record {
    size = ap length pushed.0 ∙ length-set marks i true ∙ are.size;
    marked = λ j lt is. marked j lt is;
    all = λ j lt there. all j lt there;
    is = is;
  }
    where
      at : (j : ℕ) → ((j ≡ i) × (get_or new_marks j false ≡ true))
          ⊎ ((j ≢ i) × (get_or new_marks j false ≡ get_or marks j false))
      at j = elim (cases_eq j i) [
        | inl same ↦ inl (
          same,
          subst (λ (l : List Bool). get_or l j false ≡ true) (sym pushed.0)
              (subst (λ (k : ℕ). get_or (set marks i true) k false ≡ true) (sym same)
              (get_or-set_same marks i true false (omega (arith, below, are.size)))),
        )
        | inr other ↦ inr (
          other,
          ap (λ (l : List Bool). get_or l j false) pushed.0
              ∙ get_or-set_other marks i j true false other,
        )
      ]

      marked : (j : ℕ) → j < n → slice_index_or new_marks j false ≡ true → In j (xs ++ (i ∷ []))
      marked j lt is = elim (at j) [
        | inl here ↦ In-append_right j xs (i ∷ []) (inl here.0)
        | inr other ↦ In-append_left j xs (i ∷ []) (are.marked j lt (sym other.1 ∙ is))
      ]

      all : (j : ℕ) → j < n → In j (xs ++ (i ∷ [])) → slice_index_or new_marks j false ≡ true
      all j lt there = elim (at j) [
        | inl here ↦ here.1
        | inr other ↦ other.1 ∙ are.all j lt (old other.0 xs there)
      ]
        where
          old : j ≢ i → (ys : List ℕ) → In j (ys ++ (i ∷ [])) → In j ys
          old other [] (inl same) = absurd (other same)
          old other [] (inr none) = none
          old other (y ∷ ys) (inl same) = inl same
          old other (y ∷ ys) (inr later) = inr (old other ys later)

      is : new_list ≡ once (xs ++ (i ∷ []))
      is = by (cases_In i xs)
        where
          not_marked : (b : Bool) → slice_index_or marks i false ≡ b → ¬ (slice_index_or marks i false ≡ true)
              → slice_index_or marks i false ≡ false
          not_marked true is none = absurd (none is)
          not_marked false is none = is

          by : In i xs ⊎ Avoids i xs → new_list ≡ once (xs ++ (i ∷ []))
          by (inl there) =
              pushed.1
              ∙ ap (λ (b : Bool). cond b list (list ++ (i ∷ []))) (are.all i below there)
              ∙ are.is
              ∙ sym (once-again i xs there)
          by (inr none) =
              pushed.1
              ∙ ap (λ (b : Bool). cond b list (list ++ (i ∷ [])))
              (not_marked (slice_index_or marks i false) refl (λ is. not_in i xs none (are.marked i below is)))
              ∙ ap (λ (l : List ℕ). l ++ (i ∷ [])) are.is
              ∙ sym (once-new i xs none)

-- ---- the next one of a list

-- what the next hop adds
pub flat_map-next : {X : Type 0} (f : X → List ℕ) (k : ℕ) (xs : List X) (x : X) → k < length xs → x ≡ get_or xs k x
    → flat_map f (take (k + 1) xs) ≡ flat_map f (take k xs) ++ f x
flat_map-next f k [] x lt is = absurd (omega arith)
flat_map-next f zero (y ∷ ys) x lt is =
    append-nil (f y) ∙ ap f (sym is)
flat_map-next f (suc k) (y ∷ ys) x lt is =
    let next : suc k + 1 ≡ suc (k + 1) = omega arith in
    ap (λ (n : ℕ). flat_map f (take n (y ∷ ys))) next
    ∙ ap (λ (l : List ℕ). f y ++ l) (flat_map-next f k ys x (omega (arith, lt)) is)
    ∙ sym (append_assoc (f y) (flat_map f (take k ys)) (f x))

-- ---- the first that waits

pub named_beside_first : (x : ℕ) (hops : List Hop) (h : Hop) → slice_get hops 0 ≡ Some h
    → named_beside x hops ≡ (if h.item == x then [] else x ∷ [])
named_beside_first x [] h is = absurd (subst (λ (o : Option Hop). IfNone o ⊥) (sym is) tt)
named_beside_first x (g ∷ hops) h is = ap (λ (o : Option Hop). named_beside x (unwrap_or o g ∷ [])) is

pub named_beside_none : (x : ℕ) (hops : List Hop) → slice_get hops 0 ≡ None → named_beside x hops ≡ x ∷ []
named_beside_none x [] is = refl
named_beside_none x (g ∷ hops) is = absurd (subst (λ (o : Option Hop). IfSome o (λ h. ⊥)) (sym is) tt)

pub first_or_first : (i : ℕ) (hops : List Hop) (h : Hop) → slice_get hops 0 ≡ Some h → first_or i hops ≡ h.item
first_or_first i [] h is = absurd (subst (λ (o : Option Hop). IfNone o ⊥) (sym is) tt)
first_or_first i (g ∷ hops) h is = ap (λ (o : Option Hop). (unwrap_or o g).item) is

pub first_or_none : (i : ℕ) (hops : List Hop) → slice_get hops 0 ≡ None → first_or i hops ≡ i
first_or_none i [] is = refl
first_or_none i (g ∷ hops) is = absurd (subst (λ (o : Option Hop). IfSome o (λ h. ⊥)) (sym is) tt)
