-- The first of a list that passes a test, looked for one after the other.
use Rattle.std.proofs.Common.{◌≡◌, ℕ, ◌+◌, ◌<◌, Bool, true, false, cond, List, [], ◌∷◌, length, take, drop, get_or}
use Rattle.std.proofs.Common.{Option, Some, None, refl, sym, ap, subst, ◌∙◌, arith}
use Rattle.std.specs.Prelude.{find}
use Rattle.std.specs.List.{All}
use Rattle.std.specs.Option.{option_or}
use Rattle.std.proofs.lemmas.List.{take_more, take-append-drop}
use Rattle.std.proofs.lemmas.List.Elements.{All-tail}
use Rattle.std.proofs.lemmas.List.Folds.{find-append}

module _ {X : Type 0} (p : X → Bool) where
  -- one more that doesn't pass
  pub find-passed : (xs : List X) (k : ℕ) (d : X) → k < length xs → find p (take k xs) ≡ None
      → p (get_or xs k d) ≡ false → find p (take (k + 1) xs) ≡ None
  find-passed xs k d within none fails =
      let x : X = get_or xs k d in
      ap (find p) (take_more xs k d within) ∙ find-append p (take k xs) (x ∷ [])
      ∙ ap (λ (o : Option X). option_or o (find p (x ∷ []))) none ∙ ap (λ (b : Bool). cond b (Some x) None) fails

  -- the first that does
  pub find-here : (xs : List X) (k : ℕ) (d : X) → k < length xs → find p (take k xs) ≡ None → p (get_or xs k d) ≡ true
      → find p xs ≡ Some (get_or xs k d)
  find-here xs k d within none passes =
      let x : X = get_or xs k d in
      let rest : List X = drop (k + 1) xs in
      let first : find p (take (k + 1) xs) ≡ Some x =
      ap (find p) (take_more xs k d within) ∙ find-append p (take k xs) (x ∷ [])
      ∙ ap (λ (o : Option X). option_or o (find p (x ∷ []))) none ∙ ap (λ (b : Bool). cond b (Some x) None) passes in
      ap (find p) (sym (take-append-drop (k + 1) xs)) ∙ find-append p (take (k + 1) xs) rest
      ∙ ap (λ (o : Option X). option_or o (find p rest)) first

  pub find-nowhere : (xs : List X) → All (λ x. p x ≡ false) xs → find p xs ≡ None
  find-nowhere [] h = refl
  find-nowhere (x ∷ xs) h =
      ap (λ (b : Bool). cond b (Some x) (find p xs)) (h 0 x (omega arith))
      ∙ find-nowhere xs (All-tail (λ x. p x ≡ false) x xs h)

  -- what is found passes
  pub find-passes : (xs : List X) (x : X) → find p xs ≡ Some x → p x ≡ true
  find-passes [] x e = absurd cc
  find-passes (y ∷ ys) x e = by (p y) refl (find-passes ys x) e
    where
      by : (b : Bool) → p y ≡ b → (find p ys ≡ Some x → p x ≡ true) → cond b (Some y) (find p ys) ≡ Some x → p x ≡ true
      by true passes rest e = let same : y ≡ x = cc in ap p (sym same) ∙ passes
      by false fails rest e = rest e

  -- and what holds of all holds of it
  pub find-holds : (P : X → Type 0) (xs : List X) (x : X) → All P xs → find p xs ≡ Some x → P x
  find-holds P [] x h e = absurd cc
  find-holds P (y ∷ ys) x h e = by (p y) (find-holds P ys x (All-tail P y ys h)) e
    where
      same_holds : y ≡ x → P x
      same_holds same = subst P same (h 0 y (omega arith))

      by : (b : Bool) → (find p ys ≡ Some x → P x) → cond b (Some y) (find p ys) ≡ Some x → P x
      by true rest e = let same : y ≡ x = cc in same_holds same
      by false rest e = rest e

-- tests that say the same find the same
pub find-same : {X : Type 0} (p q : X → Bool) (xs : List X) → All (λ x. p x ≡ q x) xs → find p xs ≡ find q xs
find-same p q [] h = refl
find-same {X} p q (x ∷ xs) h =
    ap (λ (b : Bool). cond b (Some x) (find p xs)) (h 0 x (omega arith))
    ∙ ap (λ (o : Option X). cond (q x) (Some x) o) (find-same p q xs (All-tail (λ x. p x ≡ q x) x xs h))
