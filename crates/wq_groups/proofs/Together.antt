-- Names that are together: who shares a line with whom, and the first-declared items of groups.
use Rattle.std.proofs.Common.{◌≡◌, ℕ, ◌+◌, ◌<◌, ◌≤◌, ◌⊎◌, inl, inr, Bool, true, false, ◌&&◌, not, cond, List, [], ◌∷◌, length, map, get_or, Some, None, refl, sym, ap, ap₂, subst, ◌∙◌, arith}
use Rattle.std.specs.Prelude.{Contains, bytes_eq}
use Rattle.std.specs.List.{list_any, position, position_or_len, prefix_len}
use Rattle.std.specs.Option.{unwrap_or}
use Rattle.std.proofs.lemmas.Bool.{cases_lt, both_ways, or_cases, or_left, or_right, and_parts, and_from, lt-ltb}
use Rattle.std.proofs.lemmas.List.{length-map, get_or-map}
use Rattle.std.proofs.lemmas.List.Elements.{Contains-append_left, Contains-append_right}
use Rattle.std.proofs.lemmas.List.FromFn.{fill_by_all}
use Rattle.std.proofs.lemmas.List.Sums.{fails_before_first, passes_at_first}
use Rattle.wq_decl.specs.declared.directive.Directive.{Directive}
use Rattle.wq_groups.specs.Grouping.{names_ordered, all_ordered, are_together, first_member, group_number, partition_of}
use Rattle.wq_groups.proofs.Among.{is_among, same_name, bytes_eq-same, Contains-is_among, Differ, Differ-append_right, Differ-parts}
use Rattle.wq_groups.specs.Numbering.{AreHeads, head_number, headed}
use Rattle.wq_groups.proofs.Heads.{heads_count, heads_length}

-- ---- tests

pub same_test : (a b : Bool) → (a ≡ true → b ≡ true) → (b ≡ true → a ≡ true) → a ≡ b
same_test true b to from = sym (to refl)
same_test false true to from = from refl
same_test false false to from = refl

-- tests that agree on each element first pass at the same place
pub prefix_len-agree : {X : Type 0} (p q : X → Bool) → ((x : X) → p x ≡ q x) → (xs : List X) → prefix_len p xs ≡ prefix_len q xs
prefix_len-agree p q agree [] = refl
prefix_len-agree p q agree (x ∷ xs) =
    ap (λ (b : Bool). cond b (1 + prefix_len p xs) 0) (agree x) ∙ ap (λ (n : ℕ). cond (q x) (1 + n) 0) (prefix_len-agree p q agree xs)

pub position_or_len-agree : {X : Type 0} (p q : X → Bool) → ((x : X) → p x ≡ q x) → (xs : List X) → position_or_len p xs ≡ position_or_len q xs
position_or_len-agree p q agree xs = prefix_len-agree (λ x. not (p x)) (λ x. not (q x)) (λ x. ap not (agree x)) xs

-- an element that passes comes no earlier than the first that does
pub position_or_len-le : {X : Type 0} (p : X → Bool) (xs : List X) (i : ℕ) (d : X) → p (get_or xs i d) ≡ true → position_or_len p xs ≤ i
position_or_len-le p xs i d passes = elim (cases_lt i (position_or_len p xs)) [
  | inl before ↦ absurd (both_ways (p (get_or xs i d)) (fails_before_first p xs i d before) passes)
  | inr no_later ↦ no_later
]

pub first_place : {X : Type 0} (p : X → Bool) (xs : List X) (i : ℕ) (d : X) → i < length xs → p (get_or xs i d) ≡ true → unwrap_or (position p xs) 0 ≡ position_or_len p xs
first_place p xs i d within passes =
    ap (λ (b : Bool). unwrap_or (cond b (Some (position_or_len p xs)) None) 0) (lt-ltb (position_or_len p xs) (length xs) (omega (arith, position_or_len-le p xs i d passes)))

-- ---- on one line

-- an `ordered` line has both names
abbrev pub on_one_line : List (ℕ × Directive) → List ℕ → List ℕ → Bool
on_one_line ds a b = list_any (λ d. is_among a (names_ordered d) && is_among b (names_ordered d)) ds

pub on_one_line-flip : (ds : List (ℕ × Directive)) (a b : List ℕ) → on_one_line ds a b ≡ true → on_one_line ds b a ≡ true
on_one_line-flip [] a b e = e
on_one_line-flip (d ∷ ds) a b e = elim (or_cases (is_among a (names_ordered d) && is_among b (names_ordered d)) (on_one_line ds a b) e) [
  | inl here ↦
      let parts = and_parts (is_among a (names_ordered d)) (is_among b (names_ordered d)) here in
      or_left (is_among b (names_ordered d) && is_among a (names_ordered d)) (on_one_line ds b a) (and_from (is_among b (names_ordered d)) (is_among a (names_ordered d)) parts.1 parts.0)
  | inr later ↦ or_right (is_among b (names_ordered d) && is_among a (names_ordered d)) (on_one_line ds b a) (on_one_line-flip ds a b later)
]

-- a name that shares a line is ordered
pub on_one_line-ordered : (ds : List (ℕ × Directive)) (a b : List ℕ) → on_one_line ds a b ≡ true → Contains (all_ordered ds) a
on_one_line-ordered [] a b e = absurd cc
on_one_line-ordered (d ∷ ds) a b e = elim (or_cases (is_among a (names_ordered d) && is_among b (names_ordered d)) (on_one_line ds a b) e) [
  | inl here ↦
      Contains-append_left (names_ordered d) (all_ordered ds) a (Contains-is_among a (names_ordered d) (and_parts (is_among a (names_ordered d)) (is_among b (names_ordered d)) here).0)
  | inr later ↦ Contains-append_right (names_ordered d) (all_ordered ds) a (on_one_line-ordered ds a b later)
]

pub on_one_line-chain : (ds : List (ℕ × Directive)) (a b c : List ℕ) → Differ (all_ordered ds) → on_one_line ds a b ≡ true → on_one_line ds b c ≡ true → on_one_line ds a c ≡ true
on_one_line-chain [] a b c differ ab bc = ab
on_one_line-chain (d ∷ ds) a b c differ ab bc =
    let names = names_ordered d in
    elim (or_cases (is_among a names && is_among b names) (on_one_line ds a b) ab) [
      | inl ab_here ↦ elim (or_cases (is_among b names && is_among c names) (on_one_line ds b c) bc) [
        | inl bc_here ↦
            or_left (is_among a names && is_among c names) (on_one_line ds a c)
            (and_from (is_among a names) (is_among c names) (and_parts (is_among a names) (is_among b names) ab_here).0 (and_parts (is_among b names) (is_among c names) bc_here).1)
        | inr bc_later ↦
            absurd (Differ-parts names (all_ordered ds) b differ (Contains-is_among b names (and_parts (is_among a names) (is_among b names) ab_here).1) (on_one_line-ordered ds b c bc_later))
      ]
      | inr ab_later ↦ elim (or_cases (is_among b names && is_among c names) (on_one_line ds b c) bc) [
        | inl bc_here ↦
            absurd (Differ-parts names (all_ordered ds) b differ (Contains-is_among b names (and_parts (is_among b names) (is_among c names) bc_here).0)
            (on_one_line-ordered ds b a (on_one_line-flip ds a b ab_later)))
        | inr bc_later ↦
            or_right (is_among a names && is_among c names) (on_one_line ds a c) (on_one_line-chain ds a b c (Differ-append_right names (all_ordered ds) differ) ab_later bc_later)
      ]
    ]

-- ---- together

pub are_together-same : (ds : List (ℕ × Directive)) (a b : List ℕ) → a ≡ b → are_together ds a b ≡ true
are_together-same ds a b same = or_left (bytes_eq a b) (on_one_line ds a b) (bytes_eq-same a b same)

pub are_together-line : (ds : List (ℕ × Directive)) (a b : List ℕ) → on_one_line ds a b ≡ true → are_together ds a b ≡ true
are_together-line ds a b line = or_right (bytes_eq a b) (on_one_line ds a b) line

pub together_cases : (ds : List (ℕ × Directive)) (a b : List ℕ) → are_together ds a b ≡ true → (a ≡ b) ⊎ (on_one_line ds a b ≡ true)
together_cases ds a b e = elim (or_cases (bytes_eq a b) (on_one_line ds a b) e) [ inl same ↦ inl (same_name a b same) | inr line ↦ inr line ]

pub are_together-flip : (ds : List (ℕ × Directive)) (a b : List ℕ) → are_together ds a b ≡ true → are_together ds b a ≡ true
are_together-flip ds a b e = elim (together_cases ds a b e) [
  | inl same ↦ are_together-same ds b a (sym same)
  | inr line ↦ are_together-line ds b a (on_one_line-flip ds a b line)
]

pub are_together-chain : (ds : List (ℕ × Directive)) (a b c : List ℕ) → Differ (all_ordered ds) → are_together ds a b ≡ true → are_together ds b c ≡ true → are_together ds a c ≡ true
are_together-chain ds a b c differ ab bc = elim (together_cases ds a b ab) [
  | inl ab_same ↦ subst (λ (n : List ℕ). are_together ds n c ≡ true) (sym ab_same) bc
  | inr ab_line ↦ elim (together_cases ds b c bc) [
    | inl bc_same ↦ subst (λ (n : List ℕ). are_together ds a n ≡ true) bc_same ab
    | inr bc_line ↦ are_together-line ds a c (on_one_line-chain ds a b c differ ab_line bc_line)
  ]
]

-- names that are together are together with the same names
pub are_together-agree : (ds : List (ℕ × Directive)) (a b c : List ℕ) → Differ (all_ordered ds) → are_together ds a b ≡ true → are_together ds a c ≡ are_together ds b c
are_together-agree ds a b c differ ab =
    same_test (are_together ds a c) (are_together ds b c) (are_together-chain ds b a c differ (are_together-flip ds a b ab)) (are_together-chain ds a b c differ ab)

-- ---- the first-declared item of a group

-- of item i
abbrev pub first_of : List (ℕ × Directive) → List (List ℕ) → ℕ → ℕ
first_of ds names i = first_member ds names (get_or names i [])

module _ (ds : List (ℕ × Directive)) (names : List (List ℕ)) where
  pub first_of-is : (i : ℕ) → i < length names → first_of ds names i ≡ position_or_len (are_together ds (get_or names i [])) names
  first_of-is i within = first_place (are_together ds (get_or names i [])) names i [] within (are_together-same ds (get_or names i []) (get_or names i []) refl)

  first_of-le : (i : ℕ) → i < length names → first_of ds names i ≤ i
  first_of-le i within =
      subst (λ k. k ≤ i) (sym (first_of-is i within)) (position_or_len-le (are_together ds (get_or names i [])) names i [] (are_together-same ds (get_or names i []) (get_or names i []) refl))

  -- an item is together with the first of its group
  pub first_of-together : (i : ℕ) → i < length names → are_together ds (get_or names i []) (get_or names (first_of ds names i) []) ≡ true
  first_of-together i within =
      subst (λ k. are_together ds (get_or names i []) (get_or names k []) ≡ true) (sym (first_of-is i within))
      (passes_at_first (are_together ds (get_or names i [])) names [] (subst (λ k. k < length names) (first_of-is i within) (omega (arith, first_of-le i within))))

  module _ (differ : Differ (all_ordered ds)) where
    pub first_of-same : (i j : ℕ) → i < length names → j < length names → are_together ds (get_or names i []) (get_or names j []) ≡ true → first_of ds names i ≡ first_of ds names j
    first_of-same i j i_in j_in together =
        first_of-is i i_in
        ∙ position_or_len-agree (are_together ds (get_or names i [])) (are_together ds (get_or names j [])) (λ (c : List ℕ). are_together-agree ds (get_or names i []) (get_or names j []) c differ together) names
        ∙ sym (first_of-is j j_in)

    pub together_from_first_of : (i j : ℕ) → i < length names → j < length names → first_of ds names i ≡ first_of ds names j → are_together ds (get_or names i []) (get_or names j []) ≡ true
    together_from_first_of i j i_in j_in same =
        are_together-chain ds (get_or names i []) (get_or names (first_of ds names i) []) (get_or names j []) differ (first_of-together i i_in)
        (are_together-flip ds (get_or names j []) (get_or names (first_of ds names i) []) (subst (λ k. are_together ds (get_or names j []) (get_or names k []) ≡ true) (sym same) (first_of-together j j_in)))

    pub AreHeads-first_of : AreHeads (length names) (first_of ds names)
    AreHeads-first_of = record {
      no_later = first_of-le;
      own = λ i within. sym (first_of-same i (first_of ds names i) within (omega (arith, first_of-le i within)) (first_of-together i within));
    }

  -- ---- the partition

  group_number-is : (i : ℕ) → i < length names → group_number ds names (get_or names i []) ≡ head_number (first_of ds names) i
  group_number-is i within = heads_count (first_of ds names) (first_of ds names i) (length names) (omega (arith, first_of-le i within))

  pub partition_of-headed : partition_of ds names ≡ headed (length names) (first_of ds names)
  partition_of-headed =
      ap₂ (λ (gs : List ℕ) (n : ℕ). record { group_of = gs; groups = n })
      (fill_by_all (head_number (first_of ds names)) (map (group_number ds names) names) (length names) 0 (length-map names (group_number ds names))
      (λ k lt. get_or-map (group_number ds names) names k [] 0 lt ∙ group_number-is k lt)) (heads_length (first_of ds names) (length names))
