-- Jobs that are made of what is handed in, the last one first.
use Rattle.std.proofs.Common.{◌≡◌, List, [], ◌∷◌, ◌++◌, map, reverse, refl, sym, ap, ◌∙◌}
use Rattle.std.proofs.lemmas.List.{map-append, reverse-append, append-nil, append_assoc}

-- what each job was made of, and then what is left in reverse, is all that was handed in, in reverse
abbrev pub AreMade : {J X : Type 0} → (J → X) → List X → List J → List X → Type 0
AreMade part all jobs left = map part jobs ++ reverse left ≡ reverse all

-- nothing is made yet
pub none_made : {J X : Type 0} (part : J → X) (all : List X) (jobs : List J) → jobs ≡ [] → AreMade part all jobs all
none_made part all jobs none = ap (λ js. map part js ++ reverse all) none

-- the last one that is left becomes a job
pub made_more : {J X : Type 0} (part : J → X) (all : List X) (jobs more : List J) (left rest : List X) (job : J) (x : X)
    → AreMade part all jobs left → left ≡ rest ++ (x ∷ []) → more ≡ jobs ++ (job ∷ []) → part job ≡ x
    → AreMade part all more rest
made_more {J} {X} part all jobs more left rest job x are left_is more_is same =
    ap (λ (js : List J). map part js ++ reverse rest) more_is
    ∙ ap (λ (ys : List X). ys ++ reverse rest) (map-append part jobs (job ∷ []))
    ∙ append_assoc (map part jobs) (part job ∷ []) (reverse rest)
    ∙ ap (λ (y : X). map part jobs ++ (y ∷ reverse rest)) same
    ∙ ap (λ (ys : List X). map part jobs ++ ys) (sym (reverse-append rest (x ∷ [])))
    ∙ ap (λ (ys : List X). map part jobs ++ reverse ys) (sym left_is)
    ∙ are

-- nothing is left
pub all_made : {J X : Type 0} (part : J → X) (all : List X) (jobs : List J) (left : List X) → AreMade part all jobs left
    → left ≡ [] → map part jobs ≡ reverse all
all_made {J} {X} part all jobs left are none =
    sym (append-nil (map part jobs)) ∙ ap (λ (xs : List X). map part jobs ++ reverse xs) (sym none) ∙ are
