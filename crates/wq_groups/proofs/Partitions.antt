-- The groups of a declaration: that they are a partition, which items share one, and that no other is alike.
use Rattle.std.proofs.Common.{◌≡◌, ◌↔◌, ℕ, zero, suc, ◌<◌, ◌≤◌, ◌⊎◌, inl, inr, true, ◌&&◌, List, [], ◌∷◌, length, get_or, Option, Some, None, Result, Ok, Err, refl, sym, ap, ap₂, subst, subst₂, ◌∙◌, arith}
use Rattle.std.specs.Prelude.{Contains, slice_get, slice_index}
use Rattle.std.proofs.lemmas.Bool.{cases_order, or_cases, or_left, or_right, and_parts, and_from}
use Rattle.std.proofs.lemmas.List.{length-map, length-take-le, get_or-take, get_or_default, ext_get_or}
use Rattle.std.proofs.lemmas.Option.{get_or_from_slice_get, slice_get_within}
use Rattle.wq_decl.specs.declared.directive.Directive.{Directive}
use Rattle.wq_items.specs.Table.{Table}
use Rattle.wq_items.specs.Building.{table_of}
use Rattle.wq_items.proofs.BuildingLemmas.{names-table_of}
use Rattle.wq_items.proofs.FaultLemmas.{IsFaultless-table_of}
use Rattle.wq_groups.specs.declared.fault.GroupError.{GroupError}
use Rattle.wq_groups.specs.declared.fault.GroupError.TheVariants.{GroupedTwice}
use Rattle.wq_groups.specs.Partition.{Partition, IsPartition, ShareGroup, AreAlike}
use Rattle.wq_groups.specs.Grouping.{names_ordered, first_regrouped, ShareLine, are_together, partition_of, groups_of}
use Rattle.wq_groups.proofs.Among.{is_among, Contains-is_among, is_among-Contains, Differ, Differ-places}
use Rattle.wq_groups.proofs.Regrouped.{Differ-all_ordered}
use Rattle.wq_groups.specs.Numbering.{heads_below, head_number}
use Rattle.wq_groups.proofs.Heads.{head_number-at, head_number-same, IsPartition-headed}
use Rattle.wq_groups.proofs.Together.{on_one_line, are_together-line, together_cases, first_of, first_of-same, together_from_first_of, AreHeads-first_of, partition_of-headed}

-- ---- what a table says about the names

pub Differ-table_of : (ds : List (ℕ × Directive)) (t : Table) → table_of ds ≡ Ok t → Differ t.names
Differ-table_of ds t made = subst Differ (sym (names-table_of ds t made)) (IsFaultless-table_of ds t made).once

pub few-table_of : (ds : List (ℕ × Directive)) (t : Table) → table_of ds ≡ Ok t → length t.names ≤ 4096
few-table_of ds t made = subst (λ (names : List (List ℕ)). length names ≤ 4096) (sym (names-table_of ds t made)) (IsFaultless-table_of ds t made).items

-- ---- a partition

pub IsPartition-partition_of : (ds : List (ℕ × Directive)) (t : Table) → table_of ds ≡ Ok t → first_regrouped [] ds ≡ None → IsPartition (partition_of ds t.names)
IsPartition-partition_of ds t made none =
    subst IsPartition (sym (partition_of-headed ds t.names))
    (IsPartition-headed (length t.names) (first_of ds t.names) (AreHeads-first_of ds t.names (Differ-all_ordered ds none)) (few-table_of ds t made))

pub length-partition_of : (ds : List (ℕ × Directive)) (names : List (List ℕ)) → length (partition_of ds names).group_of ≡ length names
length-partition_of ds names = length-map names _

-- ---- what is answered

pub groups_of-none : (ds : List (ℕ × Directive)) (names : List (List ℕ)) → first_regrouped [] ds ≡ None → groups_of ds names ≡ Ok (partition_of ds names)
groups_of-none ds names none = rw none refl

pub groups_of-some : (ds : List (ℕ × Directive)) (names : List (List ℕ)) (n : ℕ) → first_regrouped [] ds ≡ Some n → groups_of ds names ≡ Err (GroupedTwice n)
groups_of-some ds names n some = rw some refl

-- what an answer with groups says
pub record Grouped (ds : List (ℕ × Directive)) (names : List (List ℕ)) (p : Partition) : Type 0 where
  pub once : first_regrouped [] ds ≡ None
  pub groups : p ≡ partition_of ds names

pub Grouped-groups_of : (ds : List (ℕ × Directive)) (names : List (List ℕ)) (p : Partition) → groups_of ds names ≡ Ok p → Grouped ds names p
Grouped-groups_of ds names p is = chosen (first_regrouped [] ds) refl
  where
    same_groups : {q r : Partition} → ◌≡◌ {A = Result Partition GroupError} (Ok q) (Ok r) → q ≡ r
    same_groups e = cc

    no_fault : {n : ℕ} → ◌≡◌ {A = Result Partition GroupError} (Err (GroupedTwice n)) (Ok p) → ⊥
    no_fault e = cc

    chosen : (o : Option ℕ) → first_regrouped [] ds ≡ o → Grouped ds names p
    chosen None none = record { once = none; groups = same_groups (sym is ∙ groups_of-none ds names none) }
    chosen (Some n) some = absurd (no_fault (sym (groups_of-some ds names n some) ∙ is))

pub IsPartition-groups_of : (ds : List (ℕ × Directive)) (t : Table) (p : Partition) → table_of ds ≡ Ok t → groups_of ds t.names ≡ Ok p → IsPartition p
IsPartition-groups_of ds t p made is =
    let g = Grouped-groups_of ds t.names p is in
    subst IsPartition (sym g.groups) (IsPartition-partition_of ds t made g.once)

pub length-groups_of : (ds : List (ℕ × Directive)) (t : Table) (p : Partition) → groups_of ds t.names ≡ Ok p → length p.group_of ≡ length t.names
length-groups_of ds t p is = ap (λ (q : Partition). length q.group_of) (Grouped-groups_of ds t.names p is).groups ∙ length-partition_of ds t.names

-- ---- which items share a group

ShareLine-on_one_line : (ds : List (ℕ × Directive)) (a b : List ℕ) → on_one_line ds a b ≡ true → ShareLine ds a b
ShareLine-on_one_line [] a b e = absurd cc
ShareLine-on_one_line (d ∷ ds) a b e = elim (or_cases (is_among a (names_ordered d) && is_among b (names_ordered d)) (on_one_line ds a b) e) [
  | inl here ↦
      let parts = and_parts (is_among a (names_ordered d)) (is_among b (names_ordered d)) here in
      (0, d, omega arith, refl, (Contains-is_among a (names_ordered d) parts.0, Contains-is_among b (names_ordered d) parts.1))
  | inr later ↦ let h = ShareLine-on_one_line ds a b later in (suc h.0, h.1, omega (arith, h.2), h.3, h.4)
]

on_one_line-ShareLine : (ds : List (ℕ × Directive)) (a b : List ℕ) → ShareLine ds a b → on_one_line ds a b ≡ true
on_one_line-ShareLine [] a b (k, d, lt, at, both) = absurd (omega arith)
on_one_line-ShareLine (e ∷ ds) a b (zero, d, lt, at, both) =
    let names = names_ordered e in
    or_left (is_among a names && is_among b names) (on_one_line ds a b)
    (and_from (is_among a names) (is_among b names) (is_among-Contains a names (subst (λ (l : ℕ × Directive). Contains (names_ordered l) a) (sym at) both.0)) (is_among-Contains b names (subst (λ (l : ℕ × Directive). Contains (names_ordered l) b) (sym at) both.1)))
on_one_line-ShareLine (e ∷ ds) a b (suc k, d, lt, at, both) =
    or_right (is_among a (names_ordered e) && is_among b (names_ordered e)) (on_one_line ds a b) (on_one_line-ShareLine ds a b (k, d, omega (arith, lt), at, both))

module _ (ds : List (ℕ × Directive)) (t : Table) (made : table_of ds ≡ Ok t) (once : first_regrouped [] ds ≡ None) where
  module _ (i j : ℕ) (a b : List ℕ) (i_is : slice_get t.names i ≡ Some a) (j_is : slice_get t.names j ≡ Some b) where
    i_in : i < length t.names
    i_in = slice_get_within t.names i a i_is

    j_in : j < length t.names
    j_in = slice_get_within t.names j b j_is

    a_at : get_or t.names i [] ≡ a
    a_at = get_or_from_slice_get t.names i a [] i_is

    b_at : get_or t.names j [] ≡ b
    b_at = get_or_from_slice_get t.names j b [] j_is

    number_at : (k : ℕ) → k < length t.names → slice_index (partition_of ds t.names).group_of k ≡ head_number (first_of ds t.names) k
    number_at k lt =
        ap (λ (p : Partition). get_or p.group_of k 0) (partition_of-headed ds t.names)
        ∙ head_number-at (length t.names) (first_of ds t.names) (AreHeads-first_of ds t.names (Differ-all_ordered ds once)) k 0 lt

    together_to : ShareGroup (partition_of ds t.names).group_of i j → (i ≡ j) ⊎ ShareLine ds a b
    together_to same =
        let differ = Differ-all_ordered ds once in
        let first = head_number-same (length t.names) (first_of ds t.names) (AreHeads-first_of ds t.names differ) i j i_in j_in (sym (number_at i i_in) ∙ same ∙ number_at j j_in) in
        let together : are_together ds a b ≡ true = subst₂ (λ (x y : List ℕ). are_together ds x y ≡ true) a_at b_at (together_from_first_of ds t.names differ i j i_in j_in first) in
        elim (together_cases ds a b together) [
          | inl one ↦ inl (Differ-places t.names i j (Differ-table_of ds t made) i_in j_in (a_at ∙ one ∙ sym b_at))
          | inr line ↦ inr (ShareLine-on_one_line ds a b line)
        ]

    together_from : (i ≡ j) ⊎ ShareLine ds a b → ShareGroup (partition_of ds t.names).group_of i j
    together_from (inl one) = ap (slice_index (partition_of ds t.names).group_of) one
    together_from (inr line) =
        let together : are_together ds (get_or t.names i []) (get_or t.names j []) ≡ true =
        subst₂ (λ (x y : List ℕ). are_together ds x y ≡ true) (sym a_at) (sym b_at) (are_together-line ds a b (on_one_line-ShareLine ds a b line)) in
        number_at i i_in ∙ ap (heads_below (first_of ds t.names)) (first_of-same ds t.names (Differ-all_ordered ds once) i j i_in j_in together) ∙ sym (number_at j j_in)

pub ShareGroup-partition_of : (ds : List (ℕ × Directive)) (t : Table) (i j : ℕ) (a b : List ℕ) → table_of ds ≡ Ok t → first_regrouped [] ds ≡ None → slice_get t.names i ≡ Some a → slice_get t.names j ≡ Some b
    → ShareGroup (partition_of ds t.names).group_of i j ↔ ((i ≡ j) ⊎ ShareLine ds a b)
ShareGroup-partition_of ds t i j a b made once i_is j_is = (together_to ds t made once i j a b i_is j_is, together_from ds t made once i j a b i_is j_is)

-- ---- no other partition is alike

-- the number of item i isn't lower in p, if the numbers before it are the same
not_lower : (p q : Partition) (i : ℕ) → IsPartition q → length p.group_of ≡ length q.group_of → i < length p.group_of
    → ((j : ℕ) → j < i → slice_index p.group_of j ≡ slice_index q.group_of j)
    → ((j : ℕ) → j < i → slice_index p.group_of j ≡ slice_index p.group_of i → slice_index q.group_of j ≡ slice_index q.group_of i)
    → slice_index p.group_of i < slice_index q.group_of i → ⊥
not_lower p q i is long within before alike lower =
    let h = is.in_order i (slice_index p.group_of i) (omega (arith, long)) lower in
    let j = h.0 in
    let j_in : j < i = omega (arith, h.1, length-take-le i q.group_of (omega (arith, long))) in
    let at : slice_index q.group_of j ≡ slice_index p.group_of i = get_or_default q.group_of j 0 (slice_index p.group_of i) (omega (arith, j_in, long)) ∙ sym (get_or-take i q.group_of j (slice_index p.group_of i) j_in) ∙ h.2 in
    let same = alike j j_in (before j j_in ∙ at) in
    omega (arith, lower, at, same)

same_numbers : (p q : Partition) → IsPartition p → IsPartition q → length p.group_of ≡ length q.group_of → AreAlike p q → (n i : ℕ) → i < n → i < length p.group_of
    → slice_index p.group_of i ≡ slice_index q.group_of i
same_numbers p q is_p is_q long alike zero i below within = absurd (omega arith)
same_numbers p q is_p is_q long alike (suc n) i below within =
    let before : (j : ℕ) → j < i → slice_index p.group_of j ≡ slice_index q.group_of j = λ j lt. same_numbers p q is_p is_q long alike n j (omega arith) (omega arith) in
    elim (cases_order (slice_index p.group_of i) (slice_index q.group_of i)) [
      | inl same ↦ same
      | inr (inl lower) ↦ absurd (not_lower p q i is_q long within before (λ j lt. (alike j i (omega arith) within).0) lower)
      | inr (inr higher) ↦ absurd (not_lower q p i is_p (sym long) (omega (arith, long)) (λ j lt. sym (before j lt)) (λ j lt. (alike j i (omega arith) within).1) higher)
    ]

-- there are no more groups in q, if the numbers are the same
no_more_groups : (p q : Partition) → IsPartition p → IsPartition q → p.group_of ≡ q.group_of → p.groups < q.groups → ⊥
no_more_groups p q is_p is_q same more =
    let h = is_q.filled p.groups more in
    let within : h.0 < length p.group_of = subst (λ (gs : List ℕ). h.0 < length gs) (sym same) h.1 in
    let at : get_or p.group_of h.0 p.groups ≡ p.groups = ap (λ (gs : List ℕ). get_or gs h.0 p.groups) same ∙ h.2 in
    omega (arith, is_p.within h.0 p.groups within, at)

pub the_only_one : (p q : Partition) → IsPartition p → IsPartition q → length p.group_of ≡ length q.group_of → AreAlike p q → p ≡ q
the_only_one p q is_p is_q long alike =
    let numbers : p.group_of ≡ q.group_of = ext_get_or 0 p.group_of q.group_of long (λ i within. same_numbers p q is_p is_q long alike (suc i) i (omega arith) within) in
    let groups : p.groups ≡ q.groups = elim (cases_order p.groups q.groups) [
      | inl same ↦ same
      | inr (inl more) ↦ absurd (no_more_groups p q is_p is_q numbers more)
      | inr (inr fewer) ↦ absurd (no_more_groups q p is_q is_p (sym numbers) fewer)
    ] in
    ap₂ (λ (gs : List ℕ) (n : ℕ). record { group_of = gs; groups = n }) numbers groups
