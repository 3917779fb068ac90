-- Where a name is among names.
use Rattle.std.proofs.Common.{
  ◌≡◌,
  ℕ,
  suc,
  ◌+◌,
  Bool,
  true,
  false,
  not,
  cond,
  ltb,
  List,
  [],
  ◌∷◌,
  length,
  map,
  Option,
  Some,
  None,
  refl,
  ap,
  ◌∙◌,
}
use Rattle.std.specs.Prelude.{position}
use Rattle.std.specs.List.{All, prefix_len, position_or_len}
use Rattle.std.proofs.lemmas.List.Elements.{All-head, All-tail}

prefix_len-map : {X Y : Type 0} (p : Y → Bool) (f : X → Y) (xs : List X) → prefix_len p (map f xs) ≡ prefix_len (λ x. p (f x)) xs
prefix_len-map p f [] = refl
prefix_len-map p f (x ∷ xs) = ap (λ (n : ℕ). cond (p (f x)) (1 + n) 0) (prefix_len-map p f xs)

length-map : {X Y : Type 0} (f : X → Y) (xs : List X) → length (map f xs) ≡ length xs
length-map f [] = refl
length-map f (x ∷ xs) = ap suc (length-map f xs)

place : ℕ → ℕ → Option ℕ
place at len = cond (ltb at len) (Some at) None

pub position-map : {X Y : Type 0} (p : Y → Bool) (f : X → Y) (xs : List X) → position p (map f xs) ≡ position (λ x. p (f x)) xs
unfolding place
position-map p f xs =
    ap (λ (n : ℕ). place n (length (map f xs))) (prefix_len-map (λ y. not (p y)) f xs) ∙ ap (λ (n : ℕ). place (position_or_len (λ x. p (f x)) xs) n) (length-map f xs)

prefix_len-agree : {X : Type 0} (p q : X → Bool) (xs : List X) → All (λ x. p x ≡ q x) xs → prefix_len p xs ≡ prefix_len q xs
prefix_len-agree p q [] h = refl
prefix_len-agree p q (x ∷ xs) h =
    ap (λ (b : Bool). cond b (1 + prefix_len p xs) 0) (All-head (λ y. p y ≡ q y) x xs h) ∙ ap (λ (n : ℕ). cond (q x) (1 + n) 0) (prefix_len-agree p q xs (All-tail (λ y. p y ≡ q y) x xs h))

-- tests that agree at each element find the same first one
pub position-agree : {X : Type 0} (p q : X → Bool) (xs : List X) → All (λ x. p x ≡ q x) xs → position p xs ≡ position q xs
unfolding place
position-agree p q xs h = ap (λ (n : ℕ). place n (length xs)) (prefix_len-agree (λ x. not (p x)) (λ x. not (q x)) xs (λ i d lt. ap not (h i d lt)))

pub none_is : {X : Type 0} (b : Bool) (n : X) → cond b (Some n) None ≡ None → b ≡ false
none_is true n e = absurd cc
none_is false n e = refl
