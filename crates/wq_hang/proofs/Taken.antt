-- Elements of the front of a list, and marks.
use Rattle.std.proofs.Common.{◌≡◌, ℕ, ◌+◌, ◌-◌, ◌<◌, ◌≤◌, ◌⊎◌, inl, inr, Bool, true, false, List, [], ◌∷◌, ◌++◌, length}
use Rattle.std.proofs.Common.{take, drop, Option, Some, None, set, get_or, sym, ap, subst, ◌∙◌, arith}
use Rattle.std.specs.Prelude.{Contains, slice_index_or, Result, Ok, Err, IfOk, IfSome, IfNone, MatchOption}
use Rattle.std.proofs.lemmas.Bool.{cases_eq, cases_lt}
use Rattle.std.proofs.lemmas.List.{take_more, take_all, take-append-drop, take-take, drop-take, get_or-set_same}
use Rattle.std.proofs.lemmas.List.{get_or-set_other, set_past}
use Rattle.std.proofs.lemmas.List.Elements.{Contains-push, Contains-push_cases, Contains-append_left}
use Rattle.std.proofs.lemmas.List.Elements.{Contains-append_cases}

pub contains_more : {X : Type 0} (xs : List X) (i : ℕ) (d x : X) → i < length xs → Contains (take (i + 1) xs) x → Contains (take i xs) x ⊎ (get_or xs i d ≡ x)
contains_more {X} xs i d x lt there = Contains-push_cases (take i xs) (get_or xs i d) x (subst (λ (l : List X). Contains l x) (take_more xs i d lt) there)

pub contains_all : {X : Type 0} (xs : List X) (i : ℕ) (x : X) → length xs ≤ i → Contains xs x → Contains (take i xs) x
contains_all {X} xs i x le there = subst (λ (l : List X). Contains l x) (sym (take_all i xs le)) there

pub contains_taken : {X : Type 0} (xs : List X) (i : ℕ) (x : X) → Contains (take i xs) x → Contains xs x
contains_taken {X} xs i x there = subst (λ (l : List X). Contains l x) (take-append-drop i xs) (Contains-append_left (take i xs) (drop i xs) x there)

pub contains_back : {X : Type 0} (xs : List X) (i : ℕ) (d x : X) → i < length xs → Contains (take i xs) x ⊎ (get_or xs i d ≡ x) → Contains (take (i + 1) xs) x
contains_back {X} xs i d x lt there = subst (λ (l : List X). Contains l x) (sym (take_more xs i d lt)) (elim there [
  | inl before ↦ Contains-append_left (take i xs) (get_or xs i d ∷ []) x before
  | inr same ↦ subst (λ (y : X). Contains (take i xs ++ (get_or xs i d ∷ [])) y) same (Contains-push (take i xs) (get_or xs i d))
])

-- an element of the front of a list is in a shorter front, or in the piece behind that
pub contains_piece : {X : Type 0} (xs : List X) (from to : ℕ) (x : X) → from ≤ to → Contains (take to xs) x
    → Contains (take from xs) x ⊎ Contains (take (to - from) (drop from xs)) x
contains_piece {X} xs from to x le there =
    Contains-append_cases (take from xs) (take (to - from) (drop from xs)) x
    (subst (λ (l : List X). Contains l x) is there)
  where
    both : from + (to - from) ≡ to
    both = omega (arith, le)

    is : take to xs ≡ take from xs ++ take (to - from) (drop from xs)
    is =
        ap (λ (n : ℕ). take n xs) (sym both)
        ∙ sym (take-append-drop from (take (from + (to - from)) xs))
        ∙ ap (λ (l : List X). l ++ drop from (take (from + (to - from)) xs))
        (take-take from (from + (to - from)) xs (omega arith))
        ∙ ap (λ (l : List X). take from xs ++ l) (drop-take from (to - from) xs)

-- an element of a list is in its front, or behind that
pub contains_parts : {X : Type 0} (xs : List X) (n : ℕ) (x : X) → Contains xs x
    → Contains (take n xs) x ⊎ Contains (drop n xs) x
contains_parts {X} xs n x there =
    Contains-append_cases (take n xs) (drop n xs) x
    (subst (λ (l : List X). Contains l x) (sym (take-append-drop n xs)) there)

-- a mark that is set stays, and others with it
pub marked_kept : (marks : List Bool) (p q : ℕ) → slice_index_or marks q false ≡ true → get_or (set marks p true) q false ≡ true
marked_kept marks p q is = elim (cases_eq q p) [
  | inl same ↦ elim (cases_lt p (length marks)) [
    | inl within ↦ subst (λ (k : ℕ). get_or (set marks p true) k false ≡ true) (sym same) (get_or-set_same marks p true false within)
    | inr past ↦ subst (λ (l : List Bool). get_or l q false ≡ true) (sym (set_past marks p true past)) is
  ]
  | inr other ↦ get_or-set_other marks p q true false other ∙ is
]

-- what holds of a value holds of a result that is this value
pub IfOk-is : {A E : Type 0} (P : A → Type 0) (a : A) (r : Result A E) → IfOk r (λ x. x ≡ a) → P a → IfOk r P
IfOk-is P a (Ok x) same holds = subst P (sym same) holds
IfOk-is P a (Err e) same holds = tt

-- what follows from what holds of a result, or of an option
pub IfOk-weaker : {A E : Type 0} (r : Result A E) (P Q : A → Type 0) → ((a : A) → P a → Q a) → IfOk r P → IfOk r Q
IfOk-weaker (Ok a) P Q weaker holds = weaker a holds
IfOk-weaker (Err e) P Q weaker holds = tt

pub IfSome-weaker : {A : Type 0} (o : Option A) (P Q : A → Type 0) → ((a : A) → P a → Q a) → IfSome o P → IfSome o Q
IfSome-weaker None P Q weaker holds = tt
IfSome-weaker (Some a) P Q weaker holds = weaker a holds

pub IfNone-weaker : {A : Type 0} (o : Option A) (P Q : Type 0) → (P → Q) → IfNone o P → IfNone o Q
IfNone-weaker None P Q weaker holds = weaker holds
IfNone-weaker (Some a) P Q weaker holds = tt

-- what follows from two facts of a result
pub IfOk-both : {A E : Type 0} (r : Result A E) (P Q R : A → Type 0) → ((a : A) → P a → Q a → R a) → IfOk r P
    → IfOk r Q → IfOk r R
IfOk-both (Ok a) P Q R both one other = both a one other
IfOk-both (Err e) P Q R both one other = tt

-- what follows where an option isn't empty
pub IfSome-match : {A : Type 0} (o : Option A) (P Q : A → Type 0) → ((a : A) → P a → Q a) → MatchOption o ⊥ P
    → IfSome o Q
IfSome-match None P Q weaker holds = tt
IfSome-match (Some a) P Q weaker holds = weaker a holds

pub IfNone-match : {A : Type 0} (o : Option A) (P : A → Type 0) (Q : Type 0) → MatchOption o ⊥ P → IfNone o Q
IfNone-match None P Q holds = absurd holds
IfNone-match (Some a) P Q holds = tt

pub match-weaker : {A : Type 0} (o : Option A) (P Q : A → Type 0) → ((a : A) → P a → Q a) → MatchOption o ⊥ P
    → MatchOption o ⊥ Q
match-weaker None P Q weaker holds = holds
match-weaker (Some a) P Q weaker holds = weaker a holds
