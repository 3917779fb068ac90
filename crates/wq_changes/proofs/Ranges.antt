-- Numbers that are gone through one after another: the numbers that pass a test, and what is made of each.
use Rattle.std.proofs.Common.{◌≡◌, ℕ, ◌+◌, ◌<◌, Bool, true, false, List, [], ◌∷◌, ◌++◌, map, get_or, append-nil, append_assoc, refl, sym, ap, subst, ◌∙◌, arith}
use Rattle.std.specs.Prelude.{◌||◌, filter}
use Rattle.std.specs.List.{list_any, range_with_len}
use Rattle.std.proofs.lemmas.Bool.{cond-true, cond-false}
use Rattle.std.proofs.lemmas.List.{map-append}
use Rattle.std.proofs.lemmas.List.Elements.{filter-append}
use Rattle.std.proofs.lemmas.List.Folds.{list_any-append, list_any_at}
use Rattle.std.proofs.lemmas.List.FromFn.{length-range_with_len, get_or-range_with_len}
use Rattle.wq_items.proofs.TableLemmas.{range_with_len-push}

filtered : (p : ℕ → Bool) (n : ℕ) (last : List ℕ) → filter p (n ∷ []) ≡ last → filter p (range_with_len 0 (n + 1)) ≡ filter p (range_with_len 0 n) ++ last
filtered p n last is =
    ap (filter p) (range_with_len-push n)
    ∙ filter-append p (range_with_len 0 n) (n ∷ [])
    ∙ ap (λ (l : List ℕ). filter p (range_with_len 0 n) ++ l) is

-- the next one passes, and what is made of it was added
pub passed : {X : Type 0} (f : ℕ → X) (p : ℕ → Bool) (n : ℕ) (old items new : List X) → items ≡ old ++ map f (filter p (range_with_len 0 n)) → p n ≡ true
    → new ≡ items ++ (f n ∷ []) → new ≡ old ++ map f (filter p (range_with_len 0 (n + 1)))
passed {X = X} f p n old items new so_far is pushed =
    let more : map f (filter p (range_with_len 0 (n + 1))) ≡ map f (filter p (range_with_len 0 n)) ++ (f n ∷ []) =
    ap (map f) (filtered p n (n ∷ []) (cond-true (p n) (n ∷ []) [] is)) ∙ map-append f (filter p (range_with_len 0 n)) (n ∷ []) in
    pushed
    ∙ ap (λ (l : List X). l ++ (f n ∷ [])) so_far
    ∙ append_assoc old (map f (filter p (range_with_len 0 n))) (f n ∷ [])
    ∙ ap (λ (l : List X). old ++ l) (sym more)

-- the next one doesn't
pub failed : {X : Type 0} (f : ℕ → X) (p : ℕ → Bool) (n : ℕ) (old items : List X) → items ≡ old ++ map f (filter p (range_with_len 0 n)) → p n ≡ false
    → items ≡ old ++ map f (filter p (range_with_len 0 (n + 1)))
failed {X = X} f p n old items so_far is =
    so_far
    ∙ ap (λ (l : List ℕ). old ++ map f l) (sym (filtered p n [] (cond-false (p n) (n ∷ []) [] is) ∙ append-nil (filter p (range_with_len 0 n))))

-- what is made of the next one was added
pub made : {X : Type 0} (f : ℕ → X) (n : ℕ) (items new : List X) → items ≡ map f (range_with_len 0 n) → new ≡ items ++ (f n ∷ [])
    → new ≡ map f (range_with_len 0 (n + 1))
made {X = X} f n items new so_far pushed =
    pushed
    ∙ ap (λ (l : List X). l ++ (f n ∷ [])) so_far
    ∙ sym (ap (map f) (range_with_len-push n) ∙ map-append f (range_with_len 0 n) (n ∷ []))

either : (a b : Bool) → a ≡ false → b ≡ false → (a || b) ≡ false
either false false one other = refl
either true b one other = one
either false true one other = other

-- no number so far passes, and the next one doesn't
pub none_passes : (p : ℕ → Bool) (n : ℕ) → list_any p (range_with_len 0 n) ≡ false → p n ≡ false → list_any p (range_with_len 0 (n + 1)) ≡ false
none_passes p n so_far is =
    ap (list_any p) (range_with_len-push n)
    ∙ list_any-append p (range_with_len 0 n) (n ∷ [])
    ∙ either (list_any p (range_with_len 0 n)) (list_any p (n ∷ [])) so_far (either (p n) false is refl)

-- one passes
pub some_passes : (p : ℕ → Bool) (n k : ℕ) → k < n → p k ≡ true → list_any p (range_with_len 0 n) ≡ true
some_passes p n k is passes =
    let here : k ≡ get_or (range_with_len 0 n) k k = omega (arith, get_or-range_with_len 0 n k k is) in
    list_any_at p (range_with_len 0 n) k k (omega (arith, is, length-range_with_len 0 n)) (subst (λ (x : ℕ). p x ≡ true) here passes)
