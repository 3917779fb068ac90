-- Workqueues as an assignment, if each item is on one.
use Rattle.std.proofs.Common.{◌≡◌, ℕ, ◌+◌, ◌<◌, ◌==◌, Bool, true, false, cond, List, length, map, get_or, Option, Ok, Err, sym, ap, ap₂, subst, ◌∙◌, arith}
use Rattle.std.specs.Prelude.{Contains, unwrap_or}
use Rattle.std.specs.List.{All, list_all, concat, range_with_len}
use Rattle.std.proofs.lemmas.Bool.{eq-eqb, eqb-true}
use Rattle.std.proofs.lemmas.List.{get_or_default}
use Rattle.std.proofs.lemmas.List.Folds.{list_all-map, list_any_at, Any-from_list_any}
use Rattle.std.proofs.lemmas.List.FromFn.{length-map-range_with_len, get_or-map-range_with_len, get_or-range_with_len, length-range_with_len}
use Rattle.std.proofs.lemmas.List.Sums.{AllPass-from_list_all}
use Rattle.std.proofs.lemmas.Simd.{map-map}
use Rattle.wq_groups.specs.Partition.{Partition, IsPartition}
use Rattle.wq_groups.specs.Assignment.{Assignment, IsAssignment}
use Rattle.wq_cert.specs.declared.fault.CertError.TheVariants.{NotAllItems}
use Rattle.wq_cert.specs.Reading.{stands_in, holds_member, hold_all, workqueue_with, workqueue_of_group, assignment_of, whole_assignment}
use Rattle.wq_cert.specs.Noted.{marks, AreNoted}
use Rattle.wq_cert.proofs.LaneLemmas.{HasWorkqueue, HasWorkqueue-held}

-- ---- each item is on a workqueue

all_marked : (n : ℕ) (workqueues : List (List ℕ)) → list_all (λ b. b) (marks n (concat workqueues)) ≡ hold_all n workqueues
all_marked n workqueues = list_all-map (λ b. b) (stands_in (concat workqueues)) (range_with_len 0 n)

zero_plus : (k : ℕ) → 0 + k ≡ k
zero_plus k = omega arith

-- then each group has a workqueue
pub group_held : (p : Partition) (workqueues : List (List ℕ)) (g : ℕ) → IsPartition p
    → hold_all (length p.group_of) workqueues ≡ true → g < p.groups
    → holds_member p.group_of (concat workqueues) g ≡ true
group_held p workqueues g is whole lt = member (is.filled g lt)
  where
    member : Contains p.group_of g → holds_member p.group_of (concat workqueues) g ≡ true
    member m =
        let stands : stands_in (concat workqueues) (get_or (range_with_len 0 (length p.group_of)) m.0 0) ≡ true =
        AllPass-from_list_all (stands_in (concat workqueues)) (range_with_len 0 (length p.group_of)) whole m.0 0 (omega (arith, m.1, length-range_with_len 0 (length p.group_of))) in
        let here : stands_in (concat workqueues) m.0 ≡ true = subst (λ k. stands_in (concat workqueues) k ≡ true) (get_or-range_with_len 0 (length p.group_of) m.0 0 m.1 ∙ zero_plus m.0) stands in
        let a = Any-from_list_any (λ j. m.0 == j) (concat workqueues) here in
        let own : get_or p.group_of (get_or (concat workqueues) a.0 a.1) 0 ≡ g =
        ap (λ k. get_or p.group_of k 0) (a.3 ∙ sym (eqb-true m.0 a.1 a.4)) ∙ get_or_default p.group_of m.0 0 g m.1 ∙ m.2 in
        list_any_at (λ i. get_or p.group_of i 0 == g) (concat workqueues) a.0 a.1 a.2 (eq-eqb (get_or p.group_of (get_or (concat workqueues) a.0 a.1) 0) g own)

workqueue_below : (p : Partition) (workqueues : List (List ℕ)) (g : ℕ) → IsPartition p → hold_all (length p.group_of) workqueues ≡ true → g < p.groups → workqueue_of_group p.group_of workqueues g < length workqueues
workqueue_below p workqueues g is whole lt =
    let q : HasWorkqueue p.group_of workqueues g = HasWorkqueue-held p.group_of workqueues g (group_held p workqueues g is whole lt) in
    omega (arith, q.below, ap (λ o. unwrap_or o 0) q.is)

pub IsAssignment-assignment_of : (p : Partition) (workqueues : List (List ℕ)) → IsPartition p → hold_all (length p.group_of) workqueues ≡ true → IsAssignment p.groups (assignment_of p workqueues)
IsAssignment-assignment_of p workqueues is whole = record {
  one_each = length-map-range_with_len (workqueue_of_group p.group_of workqueues) 0 p.groups;
  within = λ g d lt.
      let few : g < p.groups = omega (arith, lt, length-map-range_with_len (workqueue_of_group p.group_of workqueues) 0 p.groups) in
      subst (λ l. l < length workqueues) (sym (get_or-map-range_with_len (workqueue_of_group p.group_of workqueues) 0 p.groups g g d few (omega arith))) (workqueue_below p workqueues g is whole few);
}

-- ---- what is answered

module _ (p : Partition) (workqueues : List (List ℕ)) (count : ℕ) (stood : List Bool) (lanes : List (Option ℕ)) (noted : AreNoted p workqueues count stood lanes) where
  whole_is : (b : Bool) → list_all (λ b. b) stood ≡ b → hold_all (length p.group_of) workqueues ≡ b
  whole_is b is = sym (all_marked (length p.group_of) workqueues) ∙ ap (list_all (λ b. b)) (sym noted.items) ∙ is

  pub whole_assignment-none : list_all (λ b. b) stood ≡ false → whole_assignment p workqueues ≡ Err (NotAllItems 0)
  whole_assignment-none none = ap (λ b. cond b (Ok (assignment_of p workqueues)) (Err (NotAllItems 0))) (whole_is false none)

  lanes_are : map (λ lane. unwrap_or lane 0) lanes ≡ (assignment_of p workqueues).lane_of_group
  lanes_are = ap (map (λ lane. unwrap_or lane 0)) noted.groups ∙ map-map (λ lane. unwrap_or lane 0) (workqueue_with p.group_of workqueues) (range_with_len 0 p.groups)

  pub lanes-below : (own : List ℕ) → IsPartition p → list_all (λ b. b) stood ≡ true → own ≡ map (λ lane. unwrap_or lane 0) lanes → All (λ l. l < count) own
  lanes-below own is all made =
      let a = IsAssignment-assignment_of p workqueues is (whole_is true all) in
      subst (λ n. All (λ l. l < n) own) (sym noted.number) (subst (All (λ l. l < length workqueues)) (sym (made ∙ lanes_are)) a.within)

  pub whole_assignment-all : (own : List ℕ) (a : Assignment) → list_all (λ b. b) stood ≡ true → own ≡ map (λ lane. unwrap_or lane 0) lanes → a.lanes ≡ count → a.lane_of_group ≡ own → whole_assignment p workqueues ≡ Ok a
  whole_assignment-all own a all made number of_groups =
      ap (λ b. cond b (Ok (assignment_of p workqueues)) (Err (NotAllItems 0))) (whole_is true all)
      ∙ ap₂ (λ (n : ℕ) (ls : List ℕ). let one : Assignment = record { lanes = n; lane_of_group = ls } in Ok one) (sym (number ∙ noted.number)) (sym (of_groups ∙ made ∙ lanes_are))
