-- How a command is stopped, and how the readers of one with fewer than three texts are asked.
use Rattle.std.proofs.Common.{◌≡◌, ◌⊎◌, Result, Err, inl, inr, subst}
use Rattle.std.specs.Prelude.{IfErr}

-- what holds after any error but one holds after another
pub stopped_by : {T E : Type 0} (ended : Result T E) (e : E) (Other : E → Type 0) (P : Type 0) → ended ≡ Err e
    → IfErr ended (λ e. Other e → P) → Other e → P
stopped_by {T} {E} ended e Other P is h = subst (λ (r : Result T E). IfErr r (λ e. Other e → P)) is h

-- only the first of three readers is asked
pub only_first : {A B C D E F G : Type 0} → (A × B × C) ⊎ (D × ⊥ × E) ⊎ (F × G × ⊥) → A
only_first (inl h) = h.0
only_first (inr (inl h)) = absurd h.1
only_first (inr (inr h)) = absurd h.2

-- the third of three readers isn't asked
pub first_or_second : {A B C D E F G H : Type 0} → (A × B × C) ⊎ (D × E × F) ⊎ (G × H × ⊥) → (A × B) ⊎ (D × E)
first_or_second (inl h) = inl (h.0, h.1)
first_or_second (inr (inl h)) = inr (h.0, h.1)
first_or_second (inr (inr h)) = absurd h.2
