-- What holds of each arc.
use Rattle.std.proofs.Common.{ℕ, zero, suc, List, [], ◌∷◌}
use Rattle.std.specs.Prelude.{slice_get, IfSome}
use Rattle.std.specs.List.{All}
use Rattle.std.proofs.lemmas.List.Elements.{All-head, All-tail}

-- what holds of each element holds of the one at k, if there is one
pub IfSome-slice_get : {X : Type 0} (P : X → Type 0) (xs : List X) (k : ℕ) → All P xs → IfSome (slice_get xs k) P
IfSome-slice_get P [] k each = tt
IfSome-slice_get P (x ∷ xs) zero each = All-head P x xs each
IfSome-slice_get P (x ∷ xs) (suc k) each = IfSome-slice_get P xs k (All-tail P x xs each)
