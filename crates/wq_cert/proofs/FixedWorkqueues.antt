-- The fixed workqueues as workqueues that have been read: what is noted about them.
use Rattle.std.proofs.Common.{◌≡◌, ℕ, ◌<◌, ◌==◌, inl, inr, Bool, true, false, not, ◌||◌}
use Rattle.std.proofs.Common.{List, [], ◌∷◌, length, map, get_or, Option, Some, None, refl, sym, ap, ◌∙◌, arith}
use Rattle.std.specs.Prelude.{Contains, filter}
use Rattle.std.specs.List.{AllByRecursion, list_any, concat, range_with_len}
use Rattle.std.proofs.lemmas.Bool.{cases_Bool, both_ways, eq-eqb, ne_eqb, eqb-true, false_from_ne_true}
use Rattle.std.proofs.lemmas.List.{length-map, get_or-map, get_or_default}
use Rattle.std.proofs.lemmas.List.FromFn.{length-map-range_with_len, get_or-map-range_with_len, fill_by_all}
use Rattle.std.proofs.lemmas.Option.{slice_get-get_or}
use Rattle.wq_groups.specs.Partition.{Partition, IsPartition}
use Rattle.wq_fixed.specs.Fixed.{Fixed, IsFixed, fixed_lanes, has_none}
use Rattle.wq_cert.specs.AroundReading.{is_lane, fixed_items, fixed_workqueues}
use Rattle.wq_cert.specs.Reading.{stands_in, holds_member, workqueue_with}
use Rattle.wq_cert.specs.Noted.{marks, lanes_with, AreNoted}
use Rattle.wq_cert.proofs.LaneLemmas.{any_concat, position-none}
use Rattle.wq_cert.proofs.ListLemmas.{AllByRecursion-range_with_len, AllByRecursion-filter, list_any-none, list_any-at}
use Rattle.wq_cert.proofs.ListLemmas.{stands_in-range_with_len, stands_in-filter, position-first}

-- a test of each number in a range
any_of : (f : ℕ → List ℕ) (test : List ℕ → Bool) (a n : ℕ)
    → list_any test (map f (range_with_len a n)) ≡ list_any (λ q. test (f q)) (range_with_len a n)
any_of f test a n = list_any-mapped (range_with_len a n)
  where
    list_any-mapped : (qs : List ℕ) → list_any test (map f qs) ≡ list_any (λ q. test (f q)) qs
    list_any-mapped [] = refl
    list_any-mapped (q ∷ qs) = ap (λ b. test (f q) || b) (list_any-mapped qs)

each_is : (xs : List ℕ) → AllByRecursion (λ x. Unit {0}) xs
each_is [] = tt
each_is (x ∷ xs) = (tt, each_is xs)

-- what is kept in the list passes the test
filter-fails : (test : ℕ → Bool) (xs : List ℕ) (i : ℕ) → test i ≡ false → stands_in (filter test xs) i ≡ false
filter-fails test xs i fails =
    list_any-none (λ j. i == j) (filter test xs)
    (AllByRecursion-filter (λ x. Unit {0}) (λ j. (i == j) ≡ false) test
    (λ j _ passes. false_from_ne_true (i == j)
    (λ same. both_ways (test j) (ap test (sym (eqb-true i j same)) ∙ fails) passes))
    xs (each_is xs))

module _ (p : Partition) (f : Fixed) (partition : IsPartition p) (one_each : length f.lane_of_group ≡ p.groups)
    (fixed : IsFixed (length f.lane_of_group) f) where
  -- the lane of a group, and that of the group of an item
  abbrev lane : ℕ → Option ℕ
  lane g = get_or f.lane_of_group g None

  abbrev item_lane : ℕ → Option ℕ
  item_lane i = lane (get_or p.group_of i 0)

  abbrev items : ℕ
  items = length p.group_of

  lane-below : (g q : ℕ) → g < p.groups → lane g ≡ Some q → q < fixed_lanes f
  lane-below g q lt is =
      let within : g < length f.lane_of_group = omega (arith, lt, one_each) in
      fixed.within g q (slice_get-get_or f.lane_of_group g None within ∙ ap (λ (o : Option ℕ). Some o) is)

  -- ---- items

  stands-fixed : (q i : ℕ) → i < items → stands_in (fixed_items p f q) i ≡ is_lane (item_lane i) q
  stands-fixed q i lt = elim (cases_Bool (is_lane (item_lane i) q)) [
    | inl here ↦
        stands_in-filter (λ j. is_lane (item_lane j) q) (range_with_len 0 items) i
        (stands_in-range_with_len 0 items i (omega arith) (omega (arith, lt))) here
        ∙ sym here
    | inr other ↦ filter-fails (λ j. is_lane (item_lane j) q) (range_with_len 0 items) i other ∙ sym other
  ]

  -- a lane is one of these, if there is one
  some_lane : (o : Option ℕ) → ((q : ℕ) → o ≡ Some q → q < fixed_lanes f)
      → list_any (is_lane o) (range_with_len 0 (fixed_lanes f)) ≡ not (has_none o)
  some_lane None below =
      list_any-none (is_lane None) (range_with_len 0 (fixed_lanes f))
      (AllByRecursion-range_with_len (λ q. is_lane None q ≡ false) 0 (fixed_lanes f) (λ q low high. refl))
  some_lane (Some q) below =
      list_any-at (is_lane (Some q)) (range_with_len 0 (fixed_lanes f)) q
      (stands_in-range_with_len 0 (fixed_lanes f) q (omega arith) (omega (arith, below q refl))) (eq-eqb q q refl)

  any_same : (g h : ℕ → Bool) → ((q : ℕ) → g q ≡ h q) → (qs : List ℕ) → list_any g qs ≡ list_any h qs
  any_same g h same [] = refl
  any_same g h same (q ∷ qs) = ap (λ b. b || list_any g qs) (same q) ∙ ap (λ b. h q || b) (any_same g h same qs)

  is_fixed : (i : ℕ) → i < items → stands_in (concat (fixed_workqueues p f)) i ≡ not (has_none (item_lane i))
  is_fixed i lt =
      any_concat (λ j. i == j) (fixed_workqueues p f)
      ∙ any_of (fixed_items p f) (λ is. stands_in is i) 0 (fixed_lanes f)
      ∙ any_same (λ q. stands_in (fixed_items p f q) i) (is_lane (item_lane i)) (λ q. stands-fixed q i lt)
      (range_with_len 0 (fixed_lanes f))
      ∙ some_lane (item_lane i) (λ q is. lane-below (get_or p.group_of i 0) q (partition.within i 0 lt) is)

  fixed_marks : map (λ g. not (has_none (lane g))) p.group_of ≡ marks items (concat (fixed_workqueues p f))
  fixed_marks =
      fill_by_all (stands_in (concat (fixed_workqueues p f))) (map (λ g. not (has_none (lane g))) p.group_of) items true
      (length-map p.group_of (λ g. not (has_none (lane g))))
      (λ i lt. get_or-map (λ g. not (has_none (lane g))) p.group_of i 0 true lt ∙ sym (is_fixed i lt))

  -- ---- groups

  -- some of these items are in the group
  abbrev holds : ℕ → List ℕ → Bool
  holds g is = holds_member p.group_of is g

  holds-fixed : (g q : ℕ) → g < p.groups → holds_member p.group_of (fixed_items p f q) g ≡ is_lane (lane g) q
  holds-fixed g q lt = elim (cases_Bool (is_lane (lane g) q)) [ inl here ↦ held here | inr other ↦ absent other ]
    where
      held : is_lane (lane g) q ≡ true → holds_member p.group_of (fixed_items p f q) g ≡ is_lane (lane g) q
      held here =
          let member : Contains p.group_of g = partition.filled g lt in
          let i = member.0 in
          let own : get_or p.group_of i 0 ≡ g = get_or_default p.group_of i 0 g member.1 ∙ member.2 in
          list_any-at (λ j. get_or p.group_of j 0 == g) (fixed_items p f q) i
          (stands-fixed q i member.1 ∙ ap (λ h. is_lane (lane h) q) own ∙ here) (eq-eqb (get_or p.group_of i 0) g own)
          ∙ sym here

      absent : is_lane (lane g) q ≡ false → holds_member p.group_of (fixed_items p f q) g ≡ is_lane (lane g) q
      absent other =
          list_any-none (λ j. get_or p.group_of j 0 == g) (fixed_items p f q)
          (AllByRecursion-filter (λ x. Unit {0}) (λ j. (get_or p.group_of j 0 == g) ≡ false)
          (λ j. is_lane (item_lane j) q)
          (λ j _ passes. false_from_ne_true (get_or p.group_of j 0 == g)
          (λ same. both_ways (is_lane (lane g) q) other
          (ap (λ h. is_lane (lane h) q) (sym (eqb-true (get_or p.group_of j 0) g same)) ∙ passes)))
          (range_with_len 0 items) (each_is (range_with_len 0 items)))
          ∙ sym other

  fixed_at : (g k : ℕ) → g < p.groups → k < fixed_lanes f
      → holds_member p.group_of (get_or (fixed_workqueues p f) k []) g ≡ is_lane (lane g) k
  fixed_at g k lt below =
      ap (λ (is : List ℕ). holds_member p.group_of is g)
      (get_or-map-range_with_len (fixed_items p f) 0 (fixed_lanes f) k k [] below (omega arith))
      ∙ holds-fixed g k lt

  workqueue_with-fixed : (g : ℕ) → g < p.groups → workqueue_with p.group_of (fixed_workqueues p f) g ≡ lane g
  workqueue_with-fixed g lt = chosen (lane g) refl
    where
      chosen : (o : Option ℕ) → lane g ≡ o → workqueue_with p.group_of (fixed_workqueues p f) g ≡ lane g
      chosen None is =
          position-none (holds g) (fixed_workqueues p f)
          (any_of (fixed_items p f) (holds g) 0 (fixed_lanes f)
          ∙ list_any-none (λ q. holds g (fixed_items p f q)) (range_with_len 0 (fixed_lanes f))
          (AllByRecursion-range_with_len (λ q. holds g (fixed_items p f q) ≡ false) 0 (fixed_lanes f)
          (λ q low high. holds-fixed g q lt ∙ ap (λ o. is_lane o q) is)))
          ∙ sym is
      chosen (Some q) is =
          let below : q < fixed_lanes f = lane-below g q lt is in
          let long : length (fixed_workqueues p f) ≡ fixed_lanes f =
          length-map-range_with_len (fixed_items p f) 0 (fixed_lanes f) in
          position-first (holds g) (fixed_workqueues p f) q [] (omega (arith, below, long))
          (λ k before.
          fixed_at g k lt (omega (arith, before, below)) ∙ ap (λ o. is_lane o k) is
          ∙ ne_eqb q k (λ e. omega (arith, e, before)))
          (fixed_at g q lt below ∙ ap (λ o. is_lane o q) is ∙ eq-eqb q q refl)
          ∙ sym is

  fixed_groups : f.lane_of_group ≡ lanes_with p (fixed_workqueues p f)
  fixed_groups =
      fill_by_all (workqueue_with p.group_of (fixed_workqueues p f)) f.lane_of_group p.groups None one_each
      (λ g lt. sym (workqueue_with-fixed g lt))

  pub AreNoted-fixed : (count : ℕ) (stood : List Bool) (lanes : List (Option ℕ)) → count ≡ fixed_lanes f
      → stood ≡ map (λ g. not (has_none (lane g))) p.group_of → lanes ≡ f.lane_of_group
      → AreNoted p (fixed_workqueues p f) count stood lanes
  AreNoted-fixed count stood lanes number marked same = record {
    number = number ∙ sym (length-map-range_with_len (fixed_items p f) 0 (fixed_lanes f));
    few = omega (arith, number, fixed.few);
    items = marked ∙ fixed_marks;
    groups = same ∙ fixed_groups;
  }
