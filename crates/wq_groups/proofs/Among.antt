-- Names among names, and lists of names that differ.
use Rattle.std.proofs.Common.{◌≡◌, ◌≢◌, ℕ, ◌+◌, ◌<◌, inl, inr, Bool, true, false, List, [], ◌∷◌, ◌++◌, length, get_or, refl, sym, ◌∙◌, arith}
use Rattle.std.specs.Prelude.{AllPairs, Contains, bytes_eq}
use Rattle.std.specs.List.{list_any}
use Rattle.std.proofs.lemmas.Bool.{cases_order, both_ways, or_from, or_parts, false_from_ne_true}
use Rattle.std.proofs.lemmas.Bool.Decides.{Decides-by_or}
use Rattle.std.proofs.lemmas.List.{length-append, get_or_append_left, get_or-append-add, get_or_default}
use Rattle.std.proofs.lemmas.List.Kept.{AllPairs-cons}
use Rattle.std.proofs.lemmas.List.Quantifiers.{all_pairs_push}
use Rattle.std.proofs.lemmas.Slice.Eq.{bytes_eq-Decides}
use Rattle.wq_groups.specs.Grouping.{has_twin}

-- ---- one name

pub same_name : (a b : List ℕ) → bytes_eq a b ≡ true → a ≡ b
same_name a b = (bytes_eq-Decides a b).0

pub bytes_eq-same : (a b : List ℕ) → a ≡ b → bytes_eq a b ≡ true
bytes_eq-same a b = (bytes_eq-Decides a b).1

-- ---- among others

-- the name a is one of these
abbrev pub is_among : List ℕ → List (List ℕ) → Bool
is_among a names = list_any (bytes_eq a) names

pub Contains-is_among : (a : List ℕ) (names : List (List ℕ)) → is_among a names ≡ true → Contains names a
Contains-is_among a names e =
    let h = (Decides-by_or (bytes_eq a) (λ b. a ≡ b) (list_any (bytes_eq a)) (bytes_eq-Decides a) refl (λ _ _. refl) names).0 e in
    (h.0, h.1, sym (h.2 a))

pub is_among-Contains : (a : List ℕ) (names : List (List ℕ)) → Contains names a → is_among a names ≡ true
is_among-Contains a names h =
    (Decides-by_or (bytes_eq a) (λ b. a ≡ b) (list_any (bytes_eq a)) (bytes_eq-Decides a) refl (λ _ _. refl) names).1
    (h.0, h.1, λ d. sym (get_or_default names h.0 d a h.1 ∙ h.2))

-- ---- names that differ

-- each name is there once
abbrev pub Differ : List (List ℕ) → Type 0
Differ names = AllPairs (λ (a b : List ℕ). a ≢ b) names

pub Differ-append_left : (xs ys : List (List ℕ)) → Differ (xs ++ ys) → Differ xs
Differ-append_left xs ys differ i j d lt within same =
    let long = length-append xs ys in
    differ i j d lt (omega (arith, long)) (get_or_append_left xs ys d i (omega arith) ∙ same ∙ sym (get_or_append_left xs ys d j within))

pub Differ-append_right : (xs ys : List (List ℕ)) → Differ (xs ++ ys) → Differ ys
Differ-append_right xs ys differ i j d lt within same =
    let long = length-append xs ys in
    differ (length xs + i) (length xs + j) d (omega arith) (omega (arith, long)) (get_or-append-add xs ys i d ∙ same ∙ sym (get_or-append-add xs ys j d))

-- no name is in both parts
pub Differ-parts : (xs ys : List (List ℕ)) (a : List ℕ) → Differ (xs ++ ys) → Contains xs a → Contains ys a → ⊥
Differ-parts xs ys a differ left right =
    let long = length-append xs ys in
    differ left.0 (length xs + right.0) a (omega (arith, left.1)) (omega (arith, long, right.1))
    (get_or_append_left xs ys a left.0 left.1 ∙ left.2 ∙ sym (get_or-append-add xs ys right.0 a ∙ right.2))

pub Differ-push : (xs : List (List ℕ)) (a : List ℕ) → Differ xs → (Contains xs a → ⊥) → Differ (xs ++ (a ∷ []))
Differ-push xs a differ absent = all_pairs_push (λ (x y : List ℕ). x ≢ y) xs a differ (λ k d within same. absent (k, within, get_or_default xs k a d within ∙ same))

-- the same name at two places
pub Differ-places : (names : List (List ℕ)) (i j : ℕ) → Differ names → i < length names → j < length names → get_or names i [] ≡ get_or names j [] → i ≡ j
Differ-places names i j differ i_in j_in same = elim (cases_order i j) [
  | inl one ↦ one
  | inr (inl lt) ↦ absurd (differ i j [] lt j_in same)
  | inr (inr lt) ↦ absurd (differ j i [] lt i_in (sym same))
]

-- ---- twins

pub Differ-has_twin : (names : List (List ℕ)) → has_twin names ≡ false → Differ names
Differ-has_twin [] e = λ i j d lt within. absurd (omega arith)
Differ-has_twin (a ∷ names) e =
    let parts = or_parts (is_among a names) (has_twin names) e in
    AllPairs-cons (λ (x y : List ℕ). x ≢ y) a names
    (λ k d within same. both_ways (is_among a names) parts.0 (is_among-Contains a names (k, within, get_or_default names k a d within ∙ sym same))) (Differ-has_twin names parts.1)

pub has_twin-Differ : (names : List (List ℕ)) → Differ names → has_twin names ≡ false
has_twin-Differ [] differ = refl
has_twin-Differ (a ∷ names) differ =
    or_from (is_among a names) (has_twin names)
    (false_from_ne_true (is_among a names) (λ e. Differ-parts (a ∷ []) names a differ (0, omega arith, refl) (Contains-is_among a names e)))
    (has_twin-Differ names (Differ-append_right (a ∷ []) names differ))
