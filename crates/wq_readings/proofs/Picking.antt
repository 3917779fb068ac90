-- Elements of a list with a property, if the list gets longer, or its elements change.
use Rattle.std.proofs.Common.{zero, suc, List, ◌∷◌, refl, sym, subst, arith}
use Rattle.std.specs.List.{Any}

pub later : {X : Type 0} (P : X → Type 0) (x : X) (xs : List X) → Any P xs → Any P (x ∷ xs)
later P x xs (k, y, within, is, h) = (suc k, y, omega arith, is, h)

pub alike : {X Y : Type 0} (P : X → Type 0) (Q : Y → Type 0) (x : X) (y : Y) (xs : List X) (ys : List Y) → (P x → Q y)
    → (Any P xs → Any Q ys) → Any P (x ∷ xs) → Any Q (y ∷ ys)
alike P Q x y xs ys one rest (zero, z, within, is, h) = (0, y, omega arith, refl, one (subst P (sym is) h))
alike P Q x y xs ys one rest (suc k, z, within, is, h) = later Q y ys (rest (k, z, omega arith, is, h))

pub left_out : {X : Type 0} (P : X → Type 0) (x : X) (xs : List X) → (P x → ⊥) → Any P (x ∷ xs) → Any P xs
left_out P x xs not_here (zero, z, within, is, h) = absurd (not_here (subst P (sym is) h))
left_out P x xs not_here (suc k, z, within, is, h) = (k, z, omega arith, is, h)
