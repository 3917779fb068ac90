-- Searching the rows that a program holds is searching what they say.
use Rattle.std.proofs.Common.{◌≡◌, ◌∙◌, Bool, true, false, cond, List, [], ◌∷◌, Option, Some, None, map, refl, sym, ap}
use Rattle.std.specs.Prelude.{find, option_map}
use Rattle.std.specs.Borrow.{Bor}

-- the first one of the images is the image of the first one
find-map : {A B : Type 0} (f : A → B) (p : B → Bool) (xs : List A) → find p (map f xs) ≡ option_map f (find (λ x. p (f x)) xs)
find-map f p [] = refl
find-map {A} {B} f p (x ∷ xs) = go (p (f x)) (find-map f p xs)
  where
    go : (is : Bool) → find p (map f xs) ≡ option_map f (find (λ y. p (f y)) xs)
        → cond is (Some (f x)) (find p (map f xs)) ≡ option_map f (cond is (Some x) (find (λ y. p (f y)) xs))
    go true rest = refl
    go false rest = rest

-- mapping twice is mapping once
option_map_twice : {X Y W : Type 0} (f : X → Y) (g : Y → W) (o : Option X) → option_map g (option_map f o) ≡ option_map (λ x. g (f x)) o
option_map_twice f g None = refl
option_map_twice f g (Some x) = refl

-- what a reference to the first row says is the first one of what the rows say
pub found-said : {A B : Type 0} (f : A → B) (p : B → Bool) (xs : List A) (r : Option (Bor A))
    → option_map (λ x. x.now) r ≡ find (λ x. p (f x)) xs → option_map (λ x. f x.now) r ≡ find p (map f xs)
found-said {A} f p xs r found =
    sym (option_map_twice (λ (x : Bor A). x.now) f r) ∙ (ap (option_map f) found ∙ sym (find-map f p xs))
