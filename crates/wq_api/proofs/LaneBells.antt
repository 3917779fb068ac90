-- Condition variables: each is that of its lane, or of its item.
use Rattle.std.proofs.Common.{◌≡◌, ℕ, zero, suc, ◌⊎◌, inl, inr, List, [], ◌∷◌, ◌++◌, length, refl, sym, ap, ◌∙◌}
use Rattle.std.proofs.Common.{Some}
use Rattle.std.specs.Prelude.{slice_get}
use Rattle.wq_history.specs.declared.sleepers.Sleepers.{Sleepers}
use Rattle.wq_history.specs.declared.sleepers.Sleepers.TheVariants.{Contexts, ItemWaiters, LaneWaiters}
use Rattle.wq_api.specs.Locking.{AreOfLanes, AreOfItems}

-- what stands in a list with one more stood there before, or is that one
one_more : {X : Type 0} (xs : List X) (y x : X) (q : ℕ) → slice_get (xs ++ y ∷ []) q ≡ Some x
    → (slice_get xs q ≡ Some x) ⊎ ((q ≡ length xs) × (y ≡ x))
one_more [] y x zero is = inr (refl, let same : y ≡ x = cc in same)
one_more [] y x (suc q) is = absurd cc
one_more (z ∷ xs) y x zero is = inl is
one_more (z ∷ xs) y x (suc q) is = elim (one_more xs y x q is) [
  | inl before ↦ inl before
  | inr last ↦ inr (ap suc last.0, last.1)
]

pub of_lanes_none : {L : Type 0} (contexts waiters : L → Sleepers) → AreOfLanes contexts waiters []
of_lanes_none contexts waiters q l is = absurd cc

pub of_lanes_push : {L : Type 0} (contexts waiters : L → Sleepers) (lanes : List L) (lane : L) (n : ℕ)
    → n ≡ length lanes → AreOfLanes contexts waiters lanes → contexts lane ≡ Contexts n → waiters lane ≡ LaneWaiters n
    → AreOfLanes contexts waiters (lanes ++ lane ∷ [])
of_lanes_push contexts waiters lanes lane n is are one other q l at = elim (one_more lanes lane l q at) [
  | inl before ↦ are q l before
  | inr last ↦
      let number : n ≡ q = is ∙ sym last.0 in (
        ap contexts (sym last.1) ∙ (one ∙ ap Contexts number),
        ap waiters (sym last.1) ∙ (other ∙ ap LaneWaiters number),
      )
]

pub of_items_none : {B : Type 0} (of : B → Sleepers) → AreOfItems of []
of_items_none of i b is = absurd cc

pub of_items_push : {B : Type 0} (of : B → Sleepers) (bells : List B) (bell : B) (n : ℕ) → n ≡ length bells
    → AreOfItems of bells → of bell ≡ ItemWaiters n → AreOfItems of (bells ++ bell ∷ [])
of_items_push of bells bell n is are one i b at = elim (one_more bells bell b i at) [
  | inl before ↦ are i b before
  | inr last ↦ ap of (sym last.1) ∙ (one ∙ ap ItemWaiters (is ∙ sym last.0))
]
