-- The workqueue of a group is the one that its members are on.
use Rattle.std.proofs.Common.{◌≡◌, ℕ, ◌<◌, Bool, true, false, cond, ltb, eqb, List, [], length, map, get_or, Some, None, refl, sym, ap, subst, ◌∙◌, arith}
use Rattle.std.specs.Prelude.{slice_index, unwrap_or}
use Rattle.std.specs.List.{list_any, concat, position_or_len, range_with_len}
use Rattle.std.proofs.lemmas.Bool.{false_from_ne_true, lt-ltb, eqb-true, eq-eqb}
use Rattle.std.proofs.lemmas.List.{get_or_default}
use Rattle.std.proofs.lemmas.List.Elements.{All-contains}
use Rattle.std.proofs.lemmas.List.Folds.{Any-from_list_any, list_any_at}
use Rattle.std.proofs.lemmas.List.FromFn.{length-map-range_with_len, get_or-map-range_with_len}
use Rattle.std.proofs.lemmas.List.Sums.{position_or_len_is}
use Rattle.wq_groups.specs.Partition.{Partition, IsPartition}
use Rattle.wq_groups.specs.Assignment.{item_lane, IsAssignmentOf}
use Rattle.wq_cert.specs.Reading.{workqueue_of_group, assignment_of}
use Rattle.wq_cert.specs.Spelled.{IsOnWorkqueue, GroupsAreWhole, AreWorkqueues}
use Rattle.wq_cert.proofs.WorkqueueLists.{on_workqueue-below, Contains-on_workqueue, on_workqueue-Contains}

-- the first workqueue that holds a member of the group is the one that does
pub workqueue_of_group-on_workqueue : (group_of : List ℕ) (workqueues : List (List ℕ)) (q i g : ℕ) → GroupsAreWhole group_of workqueues → IsOnWorkqueue workqueues q i → slice_index group_of i ≡ g → workqueue_of_group group_of workqueues g ≡ q
workqueue_of_group-on_workqueue group_of workqueues q i g whole there is =
    let member : ℕ → Bool = λ j. eqb (slice_index group_of j) g in
    let holds : List ℕ → Bool = λ items. list_any member items in
    let below : q < length workqueues = on_workqueue-below workqueues q i there in
    let items = get_or workqueues q [] in
    let here : holds items ≡ true = list_any_at member items there.0 i there.1 (ap member there.2 ∙ eq-eqb (slice_index group_of i) g is) in
    let before : (k : ℕ) → k < q → holds (get_or workqueues k []) ≡ false = λ k lt.
    false_from_ne_true (holds (get_or workqueues k [])) (λ e.
    let found = Any-from_list_any member (get_or workqueues k []) e in
    let same : k ≡ q = whole k q found.1 i (found.0, found.2, found.3) there (eqb-true (slice_index group_of found.1) g found.4 ∙ sym is) in
    omega (arith, lt, same)) in
    let place : position_or_len holds workqueues ≡ q = position_or_len_is holds workqueues q [] (omega (arith, below)) before (λ lt. here) in
    ap (λ (n : ℕ). unwrap_or (cond (ltb n (length workqueues)) (Some n) None) 0) place ∙ ap (λ (b : Bool). unwrap_or (cond b (Some q) None) 0) (lt-ltb q (length workqueues) below)

module _ (p : Partition) (workqueues : List (List ℕ)) (partition : IsPartition p) (are : AreWorkqueues (length p.group_of) p.group_of workqueues) where
  lane-at : (g : ℕ) (d : ℕ) → g < p.groups → get_or (map (workqueue_of_group p.group_of workqueues) (range_with_len 0 p.groups)) g d ≡ workqueue_of_group p.group_of workqueues g
  lane-at g d within = get_or-map-range_with_len (workqueue_of_group p.group_of workqueues) 0 p.groups g g d within (omega arith)

  pub lane-on_workqueue : (q i : ℕ) → IsOnWorkqueue workqueues q i → item_lane (assignment_of p workqueues) p.group_of i ≡ q
  lane-on_workqueue q i there =
      let known : i < length p.group_of = All-contains (λ j. j < length p.group_of) (concat workqueues) i are.known (Contains-on_workqueue workqueues q i there) in
      let g = slice_index p.group_of i in
      lane-at g 0 (partition.within i 0 known) ∙ workqueue_of_group-on_workqueue p.group_of workqueues q i g are.whole there refl

  pub on_workqueue-lane : (q i : ℕ) → i < length p.group_of → item_lane (assignment_of p workqueues) p.group_of i ≡ q → IsOnWorkqueue workqueues q i
  on_workqueue-lane q i within is =
      let found = on_workqueue-Contains workqueues i (are.all i within) in
      subst (λ (r : ℕ). IsOnWorkqueue workqueues r i) (sym (lane-on_workqueue found.0 i found.1) ∙ is) found.1

  -- it is one of the workqueues
  lane-below : (g : ℕ) → g < p.groups → workqueue_of_group p.group_of workqueues g < length workqueues
  lane-below g within =
      let member = partition.filled g within in
      let i = member.0 in
      let is : slice_index p.group_of i ≡ g = get_or_default p.group_of i 0 g member.1 ∙ member.2 in
      let found = on_workqueue-Contains workqueues i (are.all i member.1) in
      let lane : workqueue_of_group p.group_of workqueues g ≡ found.0 = workqueue_of_group-on_workqueue p.group_of workqueues found.0 i g are.whole found.1 is in
      omega (arith, on_workqueue-below workqueues found.0 i found.1, lane)

  pub IsAssignmentOf-workqueues : IsAssignmentOf p.groups (assignment_of p workqueues)
  IsAssignmentOf-workqueues =
      let long : length (map (workqueue_of_group p.group_of workqueues) (range_with_len 0 p.groups)) ≡ p.groups = length-map-range_with_len (workqueue_of_group p.group_of workqueues) 0 p.groups in
      record {
        assignment = record {
          one_each = long;
          within = λ g d lt. let within : g < p.groups = omega (arith, lt, long) in subst (λ l. l < length workqueues) (sym (lane-at g d within)) (lane-below g within);
        };
        few = are.few;
      }
