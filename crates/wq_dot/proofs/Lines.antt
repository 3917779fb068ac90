-- Lines one after another.
use Rattle.std.proofs.Common.{◌≡◌, ℕ, ◌+◌, ◌<◌, ◌≤◌, List, [], ◌∷◌, ◌++◌, length, map, take, get_or, sym, ap, ◌∙◌, append_assoc, append-nil}
use Rattle.std.specs.Prelude.{flat_map}
use Rattle.std.proofs.lemmas.List.{take_more, take_all, map-append}
use Rattle.std.proofs.lemmas.Grind.{flat_map-append}
use Rattle.wq_dot.specs.Drawing.{ended}

-- the text of these lines
abbrev pub text_of : List (List ℕ) → List ℕ
text_of lines = flat_map ended lines

pub text_of-append : (before lines : List (List ℕ)) → text_of (before ++ lines) ≡ text_of before ++ text_of lines
text_of-append before lines = flat_map-append ended before lines

-- the lines that come after others
pub text_of-push : (out : List ℕ) (before lines : List (List ℕ)) → (out ++ text_of before) ++ text_of lines ≡ out ++ text_of (before ++ lines)
text_of-push out before lines = append_assoc out (text_of before) (text_of lines) ∙ ap (λ (l : List ℕ). out ++ l) (sym (text_of-append before lines))

-- the lines of each element of a list, with one more element
module _ {X : Type 0} (lines : X → List (List ℕ)) where
  pub text_of-more : (out : List ℕ) (xs : List X) (x : X) → (out ++ text_of (flat_map lines xs)) ++ text_of (lines x) ≡ out ++ text_of (flat_map lines (xs ++ (x ∷ [])))
  text_of-more out xs x =
      text_of-push out (flat_map lines xs) (lines x)
      ∙ ap (λ (l : List (List ℕ)). out ++ text_of l) (ap (λ (l : List (List ℕ)). flat_map lines xs ++ l) (sym (append-nil (lines x))) ∙ sym (flat_map-append lines xs (x ∷ [])))

  -- the lines of the next element
  pub text_of-next : (out now new : List ℕ) (xs : List X) (k : ℕ) (x : X) → k < length xs → x ≡ get_or xs k x → now ≡ out ++ text_of (flat_map lines (take k xs)) → new ≡ now ++ text_of (lines x)
      → new ≡ out ++ text_of (flat_map lines (take (k + 1) xs))
  text_of-next out now new xs k x within is so_far put =
      put ∙ ap (λ (o : List ℕ). o ++ text_of (lines x)) so_far ∙ text_of-more out (take k xs) x
      ∙ ap (λ (l : List X). out ++ text_of (flat_map lines l)) (ap (λ (y : X). take k xs ++ (y ∷ [])) is ∙ sym (take_more xs k x within))

  -- the lines of all elements
  pub text_of-all : (out now : List ℕ) (xs : List X) (k : ℕ) → length xs ≤ k → now ≡ out ++ text_of (flat_map lines (take k xs)) → now ≡ out ++ text_of (flat_map lines xs)
  text_of-all out now xs k all so_far = so_far ∙ ap (λ (l : List X). out ++ text_of (flat_map lines l)) (take_all k xs all)

-- a box: two lines, the lines of its contents, and its end
pub box_closed : (out first second last : List ℕ) (lines : List (List ℕ)) (now full new : List ℕ) → now ≡ out ++ (ended first ++ ended second) → full ≡ now ++ text_of lines → new ≡ full ++ ended last
    → new ≡ out ++ text_of (first ∷ second ∷ (lines ++ (last ∷ [])))
box_closed out first second last lines now full new opened filled closed =
    closed
    ∙ ap (λ (o : List ℕ). o ++ ended last) (filled ∙ ap (λ (o : List ℕ). o ++ text_of lines) opened)
    ∙ append_assoc (out ++ (ended first ++ ended second)) (text_of lines) (ended last)
    ∙ append_assoc out (ended first ++ ended second) (text_of lines ++ ended last)
    ∙ ap (λ (l : List ℕ). out ++ l) (
    append_assoc (ended first) (ended second) (text_of lines ++ ended last)
    ∙ ap (λ (l : List ℕ). ended first ++ (ended second ++ l)) (ap (λ (l : List ℕ). text_of lines ++ l) (sym (append-nil (ended last))) ∙ sym (text_of-append lines (last ∷ [])))
    )

-- a line for each element of a list: the line of the next
module _ {X : Type 0} (line : X → List ℕ) where
  pub text_of-line : (out now new : List ℕ) (xs : List X) (k : ℕ) (x : X) → k < length xs → x ≡ get_or xs k x → now ≡ out ++ text_of (map line (take k xs)) → new ≡ now ++ ended (line x)
      → new ≡ out ++ text_of (map line (take (k + 1) xs))
  text_of-line out now new xs k x within is so_far put =
      put ∙ ap (λ (o : List ℕ). o ++ ended (line x)) so_far
      ∙ ap (λ (l : List ℕ). (out ++ text_of (map line (take k xs))) ++ l) (sym (append-nil (ended (line x))))
      ∙ text_of-push out (map line (take k xs)) (line x ∷ [])
      ∙ ap (λ (l : List (List ℕ)). out ++ text_of l) (
      sym (map-append line (take k xs) (x ∷ []))
      ∙ ap (map line) (ap (λ (y : X). take k xs ++ (y ∷ [])) is ∙ sym (take_more xs k x within))
      )

-- a head, two parts after it, and a last line
pub text_of-whole : (head middle lines : List (List ℕ)) (last first now full new : List ℕ) → first ≡ text_of head → now ≡ first ++ text_of middle → full ≡ now ++ text_of lines → new ≡ full ++ ended last
    → new ≡ text_of (head ++ middle ++ lines ++ (last ∷ []))
text_of-whole head middle lines last first now full new begun more filled closed =
    closed
    ∙ ap (λ (o : List ℕ). o ++ ended last) (filled ∙ ap (λ (o : List ℕ). o ++ text_of lines) (more ∙ ap (λ (o : List ℕ). o ++ text_of middle) begun ∙ sym (text_of-append head middle)) ∙ sym (text_of-append (head ++ middle) lines))
    ∙ ap (λ (l : List ℕ). text_of (head ++ middle ++ lines) ++ l) (sym (append-nil (ended last)))
    ∙ sym (text_of-append (head ++ middle ++ lines) (last ∷ []))
