-- Workqueues as they are printed: each item is on one, and they are the assignment's.
use Rattle.std.proofs.Common.{◌≡◌, ◌≢◌, ℕ, zero, suc, ◌+◌, ◌<◌, ◌≤◌, Bool, true, false, eqb, List, [], ◌∷◌, ◌++◌, length, map, get_or, Option, Some, refl, sym, ap, ap₂, subst, ◌∙◌, arith, inl, inr}
use Rattle.std.specs.Prelude.{codes, position, slice_index, unwrap_or}
use Rattle.std.specs.List.{AllByRecursion, concat, enumerate_from, list_any, range_with_len}
use Rattle.std.proofs.lemmas.Bool.{cases_lt, eqb-true, eq-eqb, ne_eqb}
use Rattle.std.proofs.lemmas.List.{get_or-map, get_or_default, length-map}
use Rattle.std.proofs.lemmas.List.Elements.{All-from_recursion}
use Rattle.std.proofs.lemmas.List.FromFn.{length-range_with_len, get_or-range_with_len, length-map-range_with_len, map-range_with_len_more, fill_by_all}
use Rattle.wq_items.specs.Table.{Table, IsTable, items_at}
use Rattle.wq_items.proofs.FoundNames.{position-map}
use Rattle.wq_groups.specs.Partition.{Partition, IsPartition}
use Rattle.wq_groups.specs.Assignment.{Assignment, IsAssignment, group_lane, item_lanes}
use Rattle.wq_cert.specs.PlanText.{name_of, wq_line, workqueue_line}
use Rattle.wq_cert.specs.Reading.{stands_in, has_stood, splits_group, hold_all, workqueue_of_group, assignment_of}
use Rattle.wq_cert.specs.Spelled.{AreWorkqueues, workqueue_lines}
use Rattle.wq_cert.proofs.ListLemmas.{AllByRecursion-append, AllByRecursion-weaker, AllByRecursion-filter, AllByRecursion-range_with_len, list_any-none, list_any-apart, list_any-at, list_all-each, length-filter-le, position-first, stands_in-range_with_len, stands_in-filter, stands_in-left, stands_in-right, IsRisingFrom-filter, has_stood-rising}
use Rattle.wq_cert.proofs.PrintedLines.{IsPrintableLine}
use Rattle.wq_cert.proofs.PrintedWords.{IsPrintable-decimal, IsPrintable-keyword, IsPrintable-names_of}
use Rattle.wq_cert.proofs.WorkqueueLists.{AreGrown, AreGrown-none, AreGrown-push, IsNextWorkqueue, AreWorkqueues-grown}

-- ---- the items on workqueues

module _ (lane : List ℕ) where
  -- item i is on workqueue q
  abbrev pub IsOn : ℕ → ℕ → Type 0
  IsOn q i = (i < length lane) × (slice_index lane i ≡ q)

  -- item i is on a workqueue below q
  abbrev pub IsBelow : ℕ → ℕ → Type 0
  IsBelow q i = (i < length lane) × (slice_index lane i < q)

  pub IsOn-items_at : (q : ℕ) → AllByRecursion (IsOn q) (items_at lane q)
  IsOn-items_at q =
      AllByRecursion-filter (λ i. i < length lane) (IsOn q) (λ i. eqb (slice_index lane i) q) (λ i within e. (within, eqb-true (slice_index lane i) q e)) (range_with_len 0 (length lane))
      (AllByRecursion-range_with_len (λ i. i < length lane) 0 (length lane) (λ i low high. omega arith))

  pub length-items_at-le : (q : ℕ) → length (items_at lane q) ≤ length lane
  length-items_at-le q = omega (arith, length-filter-le (λ i. eqb (slice_index lane i) q) (range_with_len 0 (length lane)), length-range_with_len 0 (length lane))

  pub stands_in-items_at : (i : ℕ) → i < length lane → stands_in (items_at lane (slice_index lane i)) i ≡ true
  stands_in-items_at i within =
      stands_in-filter (λ j. eqb (slice_index lane j) (slice_index lane i)) (range_with_len 0 (length lane)) i (stands_in-range_with_len 0 (length lane) i (omega arith) (omega arith))
      (eq-eqb (slice_index lane i) (slice_index lane i) refl)

  -- the items on the n workqueues from a on
  abbrev queued : ℕ → ℕ → List ℕ
  queued a n = concat (map (items_at lane) (range_with_len a n))

  IsBelow-queued : (a n q : ℕ) → a + n ≤ q → AllByRecursion (IsBelow q) (queued a n)
  IsBelow-queued a zero q le = tt
  IsBelow-queued a (suc n) q le =
      AllByRecursion-append (IsBelow q) (items_at lane a) (queued (a + 1) n) (AllByRecursion-weaker (IsOn a) (IsBelow q) (λ i on. (on.0, omega (arith, on.1))) (items_at lane a) (IsOn-items_at a))
      (IsBelow-queued (a + 1) n q (omega arith))

  stands_in-queued : (a n i : ℕ) → i < length lane → a ≤ slice_index lane i → slice_index lane i < a + n → stands_in (queued a n) i ≡ true
  stands_in-queued a zero i within low high = absurd (omega arith)
  stands_in-queued a (suc n) i within low high = elim (cases_lt a (slice_index lane i)) [
    | inl above ↦ stands_in-right (items_at lane a) (queued (a + 1) n) i (stands_in-queued (a + 1) n i within (omega arith) (omega arith))
    | inr here ↦
        let same : slice_index lane i ≡ a = omega arith in
        stands_in-left (items_at lane a) (queued (a + 1) n) i (ap (λ (q : ℕ). stands_in (items_at lane q) i) (sym same) ∙ stands_in-items_at i within)
  ]

  has_stood-items_at : (q : ℕ) → has_stood (queued 0 q) (items_at lane q) ≡ false
  has_stood-items_at q =
      has_stood-rising (queued 0 q) 0 (items_at lane q)
      (list_any-apart (IsOn q) (IsBelow q) (λ i j. eqb i j) (λ i j on below. ne_eqb i j (λ e. omega (arith, on.1, below.1, ap (slice_index lane) e))) (items_at lane q) (queued 0 q) (IsOn-items_at q)
      (IsBelow-queued 0 q q (omega arith)))
      (IsRisingFrom-filter (λ i. eqb (slice_index lane i) q) 0 (length lane))

  -- items of the same group are on the same workqueue
  abbrev pub FollowsGroups : List ℕ → Type 0
  FollowsGroups group_of = (i j : ℕ) → i < length lane → j < length lane → slice_index group_of i ≡ slice_index group_of j → slice_index lane i ≡ slice_index lane j

  splits_group-items_at : (group_of : List ℕ) → FollowsGroups group_of → (q : ℕ) → splits_group group_of (queued 0 q) (items_at lane q) ≡ false
  splits_group-items_at group_of follows q =
      let same_group : ℕ → ℕ → Bool = λ i j. eqb (slice_index group_of j) (slice_index group_of i) in
      list_any-none (λ i. list_any (same_group i) (queued 0 q)) (items_at lane q)
      (list_any-apart (IsOn q) (IsBelow q) same_group
      (λ i j on below. ne_eqb (slice_index group_of j) (slice_index group_of i) (λ e. omega (arith, on.1, below.1, follows i j on.0 below.0 (sym e)))) (items_at lane q) (queued 0 q) (IsOn-items_at q)
      (IsBelow-queued 0 q q (omega arith)))

  -- ---- a line, as it is printed

  module _ (t : Table) (table : IsTable t) (long : length lane ≡ length t.names) where
    named : (q : ℕ) → AllByRecursion (λ i. i < length t.names) (items_at lane q)
    named q = AllByRecursion-weaker (IsOn q) (λ i. i < length t.names) (λ i on. omega (arith, on.0)) (items_at lane q) (IsOn-items_at q)

    IsPrintableLine-wq : (q : ℕ) → q < 4096 → IsPrintableLine (wq_line t.names lane q)
    IsPrintableLine-wq q few = record {
      some = λ e. absurd cc;
      each =
          (IsPrintable-keyword (codes "wq") refl (omega arith) (omega arith), (IsPrintable-decimal q (omega arith), IsPrintable-names_of t.names table.named (items_at lane q) (named q)));
      few = omega (arith, length-map (items_at lane q) (name_of t.names), length-items_at-le q, long, table.few_items);
    }

    pub IsPrintableLine-wqs : (a n : ℕ) → a + n ≤ 4096 → AllByRecursion IsPrintableLine (map (wq_line t.names lane) (range_with_len a n))
    IsPrintableLine-wqs a zero few = tt
    IsPrintableLine-wqs a (suc n) few = (IsPrintableLine-wq a (omega arith), IsPrintableLine-wqs (a + 1) n (omega arith))

  -- ---- lines

  -- they are those of the workqueues with these items
  workqueue_lines-from : (names : List (List ℕ)) (a n : ℕ) → map (workqueue_line names) (enumerate_from a (map (items_at lane) (range_with_len a n))) ≡ map (wq_line names lane) (range_with_len a n)
  workqueue_lines-from names a zero = refl
  workqueue_lines-from names a (suc n) = ap (λ (ls : List (List (List ℕ))). wq_line names lane a ∷ ls) (workqueue_lines-from names (a + 1) n)

  pub workqueue_lines-printed : (names : List (List ℕ)) (lanes : ℕ) → workqueue_lines names (map (items_at lane) (range_with_len 0 lanes)) ≡ map (wq_line names lane) (range_with_len 0 lanes)
  workqueue_lines-printed names lanes = workqueue_lines-from names 0 lanes

  -- ---- workqueues, one more at a time

  module _ (items : ℕ) (long : length lane ≡ items) (group_of : List ℕ) (follows : FollowsGroups group_of) where
    IsNextWorkqueue-printed : (q : ℕ) → q < 4096 → IsNextWorkqueue items group_of (map (items_at lane) (range_with_len 0 q)) (items_at lane q)
    IsNextWorkqueue-printed q few = record {
      room = omega (arith, length-map-range_with_len (items_at lane) 0 q);
      known = All-from_recursion (λ i. i < items) (items_at lane q) (AllByRecursion-weaker (IsOn q) (λ i. i < items) (λ i on. omega (arith, on.0)) (items_at lane q) (IsOn-items_at q));
      fresh = has_stood-items_at q;
      apart = splits_group-items_at group_of follows q;
    }

    pub AreGrown-printed : (lanes : ℕ) → lanes ≤ 4096 → AreGrown items group_of (map (items_at lane) (range_with_len 0 lanes))
    AreGrown-printed zero few = AreGrown-none items group_of
    AreGrown-printed (suc q) few =
        let more : map (items_at lane) (range_with_len 0 (suc q)) ≡ map (items_at lane) (range_with_len 0 q) ++ (items_at lane q ∷ []) =
        ap (λ (n : ℕ). map (items_at lane) (range_with_len 0 n)) (let e : suc q ≡ q + 1 = omega arith in e) ∙ map-range_with_len_more (items_at lane) 0 q q (omega arith) in
        subst (AreGrown items group_of) (sym more)
        (AreGrown-push items group_of (map (items_at lane) (range_with_len 0 q)) (items_at lane q) (AreGrown-printed q (omega arith)) (IsNextWorkqueue-printed q (omega arith)))

  -- ---- the assignment

  hold_all-workqueues : (lanes : ℕ) → ((i : ℕ) → i < length lane → slice_index lane i < lanes) → (items : ℕ) → items ≡ length lane → hold_all items (map (items_at lane) (range_with_len 0 lanes)) ≡ true
  hold_all-workqueues lanes within items same =
      list_all-each (stands_in (queued 0 lanes)) (range_with_len 0 items)
      (AllByRecursion-range_with_len (λ i. stands_in (queued 0 lanes) i ≡ true) 0 items
      (λ i low high. let lt : i < length lane = omega arith in stands_in-queued 0 lanes i lt (omega arith) (omega (arith, within i lt))))

module _ (p : Partition) (a : Assignment) (is : IsPartition p) (assigned : IsAssignment p.groups a) where
  abbrev lanes_of_items : List ℕ
  lanes_of_items = item_lanes a p.group_of

  abbrev workqueues_of_items : List (List ℕ)
  workqueues_of_items = map (items_at lanes_of_items) (range_with_len 0 a.lanes)

  length-lanes : length lanes_of_items ≡ length p.group_of
  length-lanes = length-map p.group_of (group_lane a)

  -- the workqueue of an item is that of its group
  lane-at : (i : ℕ) → i < length p.group_of → slice_index lanes_of_items i ≡ group_lane a (slice_index p.group_of i)
  lane-at i within = get_or-map (group_lane a) p.group_of i 0 0 within

  lane-within : (g : ℕ) → g < p.groups → group_lane a g < a.lanes
  lane-within g within = assigned.within g 0 (omega (arith, assigned.one_each))

  follows_groups : FollowsGroups lanes_of_items p.group_of
  follows_groups i j i_in j_in same =
      lane-at i (omega (arith, length-lanes)) ∙ ap (group_lane a) same ∙ sym (lane-at j (omega (arith, length-lanes)))

  item-within : (i : ℕ) → i < length lanes_of_items → slice_index lanes_of_items i < a.lanes
  item-within i within =
      let lt : i < length p.group_of = omega (arith, length-lanes) in
      omega (arith, lane-at i lt, lane-within (slice_index p.group_of i) (is.within i 0 lt))

  -- workqueue q serves group g
  abbrev serves : ℕ → ℕ → Bool
  serves g q = list_any (λ i. eqb (slice_index p.group_of i) g) (items_at lanes_of_items q)

  serves-own : (g : ℕ) → g < p.groups → serves g (group_lane a g) ≡ true
  serves-own g within =
      let member = is.filled g within in
      let i = member.0 in
      let group : slice_index p.group_of i ≡ g = get_or_default p.group_of i 0 g member.1 ∙ member.2 in
      let lane : slice_index lanes_of_items i ≡ group_lane a g = lane-at i member.1 ∙ ap (group_lane a) group in
      list_any-at (λ j. eqb (slice_index p.group_of j) g) (items_at lanes_of_items (group_lane a g)) i
      (ap (λ (q : ℕ). stands_in (items_at lanes_of_items q) i) (sym lane) ∙ stands_in-items_at lanes_of_items i (omega (arith, member.1, length-lanes))) (eq-eqb (slice_index p.group_of i) g group)

  serves-other : (g q : ℕ) → q ≢ group_lane a g → serves g q ≡ false
  serves-other g q other =
      list_any-none (λ i. eqb (slice_index p.group_of i) g) (items_at lanes_of_items q)
      (AllByRecursion-weaker (IsOn lanes_of_items q) (λ i. eqb (slice_index p.group_of i) g ≡ false)
      (λ i on. ne_eqb (slice_index p.group_of i) g (λ e. other (sym on.1 ∙ lane-at i (omega (arith, on.0, length-lanes)) ∙ ap (group_lane a) e))) (items_at lanes_of_items q) (IsOn-items_at lanes_of_items q))

  workqueue_of_group-own : (g : ℕ) → g < p.groups → workqueue_of_group p.group_of workqueues_of_items g ≡ group_lane a g
  workqueue_of_group-own g within =
      let l = group_lane a g in
      let lanes = range_with_len 0 a.lanes in
      let lt : l < a.lanes = lane-within g within in
      let here : get_or lanes l 0 ≡ l = get_or-range_with_len 0 a.lanes l 0 lt ∙ omega arith in
      let first : position (serves g) lanes ≡ Some l =
      position-first (serves g) lanes l 0 (omega (arith, length-range_with_len 0 a.lanes))
      (λ k below. ap (serves g) (get_or-range_with_len 0 a.lanes k 0 (omega arith)) ∙ serves-other g (0 + k) (λ e. omega arith))
      (ap (serves g) here ∙ serves-own g within) in
      ap (λ (o : Option ℕ). unwrap_or o 0) (position-map (λ (items : List ℕ). list_any (λ i. eqb (slice_index p.group_of i) g) items) (items_at lanes_of_items) lanes ∙ first)

  pub assignment_of-workqueues : assignment_of p workqueues_of_items ≡ a
  assignment_of-workqueues =
      let lanes : length workqueues_of_items ≡ a.lanes = length-map-range_with_len (items_at lanes_of_items) 0 a.lanes in
      let groups : a.lane_of_group ≡ map (workqueue_of_group p.group_of workqueues_of_items) (range_with_len 0 p.groups) =
      fill_by_all (workqueue_of_group p.group_of workqueues_of_items) a.lane_of_group p.groups 0 assigned.one_each (λ g within. sym (workqueue_of_group-own g within)) in
      ap₂ (λ (n : ℕ) (ls : List ℕ). record { lanes = n; lane_of_group = ls }) lanes (sym groups)

  pub AreWorkqueues-printed : a.lanes ≤ 4096 → (items : ℕ) → length p.group_of ≡ items → AreWorkqueues items p.group_of workqueues_of_items
  AreWorkqueues-printed few items same =
      AreWorkqueues-grown items p.group_of workqueues_of_items (AreGrown-printed lanes_of_items items (length-lanes ∙ same) p.group_of follows_groups a.lanes few)
      (hold_all-workqueues lanes_of_items a.lanes item-within items (sym (length-lanes ∙ same)))
