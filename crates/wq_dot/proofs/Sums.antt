-- Sums over lists, part by part.
use Rattle.std.proofs.Common.{◌≡◌, ℕ, zero, suc, ◌+◌, ◌<◌, ◌==◌, Bool, true, false, cond, inl, inr, List, [], ◌∷◌, map, refl, sym, ap, ap₂, ◌∙◌, arith}
use Rattle.std.specs.Prelude.{flat_map, filter}
use Rattle.std.specs.List.{All, sum_by, range_with_len}
use Rattle.std.proofs.lemmas.Bool.{cases_eq, cond-true, cond-false, eq-eqb, ne_eqb}
use Rattle.std.proofs.lemmas.List.Elements.{All-head, All-tail}
use Rattle.std.proofs.lemmas.List.Sums.{sum_by-cons, sum_by-append, sum_by_push}
use Rattle.wq_items.proofs.TableLemmas.{range_with_len-push}

pub sum_by-map : {X Y : Type 0} (w : Y → ℕ) (f : X → Y) (xs : List X) → sum_by w (map f xs) ≡ sum_by (λ x. w (f x)) xs
sum_by-map w f [] = refl
sum_by-map w f (x ∷ xs) = sum_by-cons w (f x) (map f xs) ∙ ap (λ n. w (f x) + n) (sum_by-map w f xs) ∙ sym (sum_by-cons (λ y. w (f y)) x xs)

pub sum_by-flat_map : {X Y : Type 0} (w : Y → ℕ) (f : X → List Y) (xs : List X) → sum_by w (flat_map f xs) ≡ sum_by (λ x. sum_by w (f x)) xs
sum_by-flat_map w f [] = refl
sum_by-flat_map w f (x ∷ xs) = sum_by-append w (f x) (flat_map f xs) ∙ ap (λ n. sum_by w (f x) + n) (sum_by-flat_map w f xs) ∙ sym (sum_by-cons (λ y. sum_by w (f y)) x xs)

-- weights that are the same at each element
pub sum_by-same : {X : Type 0} (v w : X → ℕ) (xs : List X) → All (λ x. v x ≡ w x) xs → sum_by v xs ≡ sum_by w xs
sum_by-same v w [] h = refl
sum_by-same v w (x ∷ xs) h = sum_by-cons v x xs ∙ ap₂ (λ m n. m + n) (All-head (λ y. v y ≡ w y) x xs h) (sum_by-same v w xs (All-tail (λ y. v y ≡ w y) x xs h)) ∙ sym (sum_by-cons w x xs)

pub sum_by-zero : {X : Type 0} (xs : List X) → sum_by (λ (x : X). 0) xs ≡ 0
sum_by-zero [] = refl
sum_by-zero (x ∷ xs) = omega (arith, sum_by-cons (λ y. 0) x xs, sum_by-zero xs)

pub sum_by-both : {X : Type 0} (v w : X → ℕ) (xs : List X) → sum_by (λ x. v x + w x) xs ≡ sum_by v xs + sum_by w xs
sum_by-both v w [] = refl
sum_by-both v w (x ∷ xs) = omega (arith, sum_by-cons (λ y. v y + w y) x xs, sum_by-cons v x xs, sum_by-cons w x xs, sum_by-both v w xs)

-- ---- one number below m

spot-none : (c k m : ℕ) → (k < m → ⊥) → sum_by (λ v. cond (k == v) c 0) (range_with_len 0 m) ≡ 0
spot-none c k zero past = refl
spot-none c k (suc m) past =
    let more : suc m ≡ m + 1 = omega arith in
    let w : ℕ → ℕ = λ v. cond (k == v) c 0 in
    let here : w m ≡ 0 = cond-false (k == m) c 0 (ne_eqb k m (λ e. past (omega (arith, e)))) in
    let before : sum_by w (range_with_len 0 m) ≡ 0 = spot-none c k m (λ lt. past (omega (arith, lt))) in
    ap (λ n. sum_by w (range_with_len 0 n)) more ∙ ap (sum_by w) (range_with_len-push m) ∙ sum_by_push w (range_with_len 0 m) m ∙ omega (arith, here, before)

-- what counts only at k
pub spot : (c k m : ℕ) → k < m → sum_by (λ v. cond (k == v) c 0) (range_with_len 0 m) ≡ c
spot c k zero below = absurd (omega (arith, below))
spot c k (suc m) below =
    let more : suc m ≡ m + 1 = omega arith in
    let w : ℕ → ℕ = λ v. cond (k == v) c 0 in
    ap (λ n. sum_by w (range_with_len 0 n)) more ∙ ap (sum_by w) (range_with_len-push m) ∙ sum_by_push w (range_with_len 0 m) m ∙ elim (cases_eq k m) [
      | inl last ↦
          let here : w m ≡ c = cond-true (k == m) c 0 (eq-eqb k m last) in
          omega (arith, here, spot-none c k m (λ lt. omega (arith, lt, last)))
      | inr other ↦
          let here : w m ≡ 0 = cond-false (k == m) c 0 (ne_eqb k m other) in
          omega (arith, here, spot c k m (omega (arith, below, other)))
    ]

-- ---- a list parted by a number of each element

part-cons : {X : Type 0} (w f : X → ℕ) (x : X) (xs : List X) (v : ℕ) → sum_by w (filter (λ y. f y == v) (x ∷ xs)) ≡ cond (f x == v) (w x) 0 + sum_by w (filter (λ y. f y == v) xs)
part-cons w f x xs v = chosen (f x == v)
  where
    chosen : (b : Bool) → sum_by w (cond b (x ∷ filter (λ y. f y == v) xs) (filter (λ y. f y == v) xs)) ≡ cond b (w x) 0 + sum_by w (filter (λ y. f y == v) xs)
    chosen true = sum_by-cons w x (filter (λ y. f y == v) xs)
    chosen false = omega arith

-- the sums of the parts are the sum
pub sum_by-parts : {X : Type 0} (w f : X → ℕ) (m : ℕ) (xs : List X) → All (λ x. f x < m) xs → sum_by (λ v. sum_by w (filter (λ x. f x == v) xs)) (range_with_len 0 m) ≡ sum_by w xs
sum_by-parts w f m [] h = sum_by-zero (range_with_len 0 m)
sum_by-parts w f m (x ∷ xs) h =
    let parts : ℕ → ℕ = λ v. sum_by w (filter (λ y. f y == v) xs) in
    sum_by-same (λ v. sum_by w (filter (λ y. f y == v) (x ∷ xs))) (λ v. cond (f x == v) (w x) 0 + parts v) (range_with_len 0 m) (λ k d within. part-cons w f x xs _)
    ∙ sum_by-both (λ v. cond (f x == v) (w x) 0) parts (range_with_len 0 m)
    ∙ ap₂ (λ a b. a + b) (spot (w x) (f x) m (All-head (λ y. f y < m) x xs h)) (sum_by-parts w f m xs (All-tail (λ y. f y < m) x xs h))
    ∙ sym (sum_by-cons w x xs)
