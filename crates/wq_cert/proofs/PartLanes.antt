-- Workqueues on which items may be missing: whether their groups are whole, and the lanes of these groups.
use Rattle.std.proofs.Common.{◌≡◌, ℕ, ◌+◌, ◌<◌, ◌≤◌, inl, inr, Bool, true, false, not, ◌||◌, cond, ltb}
use Rattle.std.proofs.Common.{List, length, get_or, count_by, Option, Some, None, Result, Ok, Err, refl, sym, ap, ap₂}
use Rattle.std.proofs.Common.{◌∙◌, arith}
use Rattle.std.specs.List.{list_all, concat, range_with_len}
use Rattle.std.proofs.lemmas.Bool.{cases_Bool, ltb-false}
use Rattle.std.proofs.lemmas.List.{get_or_default}
use Rattle.std.proofs.lemmas.List.Folds.{list_all_at}
use Rattle.std.proofs.lemmas.List.FromFn.{length-range_with_len, get_or-range_with_len}
use Rattle.std.proofs.lemmas.List.Sums.{list_all-from_AllPass}
use Rattle.std.proofs.lemmas.Option.{get_or_from_slice_get, slice_get_within}
use Rattle.wq_groups.specs.Partition.{Partition, IsPartition}
use Rattle.wq_fixed.specs.Fixed.{IsFixed, has_none}
use Rattle.wq_cert.specs.declared.fault.CertError.{CertError}
use Rattle.wq_cert.specs.declared.fault.CertError.TheVariants.{GroupSplit, NumberOutOfRange}
use Rattle.wq_cert.specs.FixedReading.{is_with_its_group, part_lanes}
use Rattle.wq_cert.specs.Noted.{marks, lanes_with}
use Rattle.wq_cert.specs.Reading.{holds_member, workqueue_with}
use Rattle.wq_cert.proofs.LaneLemmas.{HasWorkqueue-held, any_holds, position-none, get_or-lanes_with}
use Rattle.wq_cert.proofs.LaneLemmas.{length-lanes_with}
use Rattle.wq_cert.proofs.StoodLemmas.{get_or-marks}

-- ---- whole groups

-- this item is marked, or its group has no workqueue
abbrev pub is_whole_at : List Bool → List (Option ℕ) → List ℕ → ℕ → Bool
is_whole_at stood lanes group_of i = get_or stood i false || has_none (get_or lanes (get_or group_of i 0) None)

-- a group has no workqueue if none holds a member of it
has_none-with : (group_of : List ℕ) (workqueues : List (List ℕ)) (g : ℕ)
    → has_none (workqueue_with group_of workqueues g) ≡ not (holds_member group_of (concat workqueues) g)
has_none-with group_of workqueues g = elim (cases_Bool (holds_member group_of (concat workqueues) g)) [
  | inl held ↦ let own = HasWorkqueue-held group_of workqueues g held in ap has_none own.is ∙ ap not (sym held)
  | inr free ↦
      ap has_none
      (position-none (λ items. holds_member group_of items g) workqueues (any_holds group_of workqueues g false free))
      ∙ ap not (sym free)
]

module _ (p : Partition) (stood : List Bool) (lanes : List (Option ℕ)) (workqueues : List (List ℕ))
    (partition : IsPartition p) (marked : stood ≡ marks (length p.group_of) (concat workqueues))
    (settled : lanes ≡ lanes_with p workqueues) where
  whole_is : (i : ℕ) → i < length p.group_of
      → is_whole_at stood lanes p.group_of i ≡ is_with_its_group p.group_of workqueues i
  whole_is i lt =
      let g = get_or p.group_of i 0 in
      ap₂ (λ (a b : Bool). a || b)
      (ap (λ (ms : List Bool). get_or ms i false) marked
      ∙ get_or-marks (length p.group_of) (concat workqueues) i false lt)
      (ap (λ (ls : List (Option ℕ)). has_none (get_or ls g None)) settled
      ∙ ap has_none (get_or-lanes_with p workqueues g None (partition.within i 0 lt))
      ∙ has_none-with p.group_of workqueues g)

  at_range : (i d : ℕ) → i < length p.group_of
      → is_with_its_group p.group_of workqueues (get_or (range_with_len 0 (length p.group_of)) i d)
      ≡ is_with_its_group p.group_of workqueues i
  at_range i d lt =
      let here : get_or (range_with_len 0 (length p.group_of)) i d ≡ i =
      get_or-range_with_len 0 (length p.group_of) i d lt ∙ omega arith in
      ap (is_with_its_group p.group_of workqueues) here

  pub all_whole : ((i : ℕ) → i < length p.group_of → is_whole_at stood lanes p.group_of i ≡ true)
      → true ≡ list_all (is_with_its_group p.group_of workqueues) (range_with_len 0 (length p.group_of))
  all_whole each =
      sym (list_all-from_AllPass (is_with_its_group p.group_of workqueues) (range_with_len 0 (length p.group_of))
      (λ i d within.
      let lt : i < length p.group_of = omega (arith, within, length-range_with_len 0 (length p.group_of)) in
      at_range i d lt ∙ sym (whole_is i lt) ∙ each i lt))

  pub one_split : (i : ℕ) → i < length p.group_of → is_whole_at stood lanes p.group_of i ≡ false
      → false ≡ list_all (is_with_its_group p.group_of workqueues) (range_with_len 0 (length p.group_of))
  one_split i lt split =
      sym (list_all_at (is_with_its_group p.group_of workqueues) (range_with_len 0 (length p.group_of)) i 0
      (omega (arith, lt, length-range_with_len 0 (length p.group_of)))
      (at_range i 0 lt ∙ sym (whole_is i lt) ∙ split))

-- ---- one item

not_true : (b : Bool) → not b ≡ true → b ≡ false
not_true true e = absurd cc
not_true false e = refl

-- item k, of this group, splits it
pub is_split : (p : Partition) (stood : List Bool) (lanes : List (Option ℕ)) (k group at : ℕ) (is_marked : Bool)
    (lane : Option ℕ) → IsPartition p → length lanes ≡ p.groups → k < length p.group_of → group ≡ get_or p.group_of k 0
    → at ≡ group → is_marked ≡ get_or stood k false → lane ≡ get_or lanes at lane
    → not (is_marked || has_none lane) ≡ true → is_whole_at stood lanes p.group_of k ≡ false
is_split p stood lanes k group at is_marked lane partition long within of same marked found splits =
    let own : at ≡ get_or p.group_of k 0 = same ∙ of in
    let below : at < length lanes = omega (arith, own, partition.within k 0 within, long) in
    let held : lane ≡ get_or lanes (get_or p.group_of k 0) None =
    found ∙ get_or_default lanes at lane None below ∙ ap (λ (i : ℕ). get_or lanes i None) own in
    sym (ap₂ (λ (a : Bool) (l : Option ℕ). a || has_none l) marked held) ∙ not_true (is_marked || has_none lane) splits

-- ---- the lanes

module _ (p : Partition) (workqueues : List (List ℕ)) where
  abbrev are_all_whole : Bool
  are_all_whole = list_all (is_with_its_group p.group_of workqueues) (range_with_len 0 (length p.group_of))

  abbrev many : ℕ
  many = length workqueues + count_by has_none (lanes_with p workqueues)

  abbrev lanes_if : Bool → Bool → Result (List (Option ℕ)) CertError
  lanes_if whole far =
      cond (not whole) (Err (GroupSplit 0)) (cond far (Err (NumberOutOfRange 0)) (Ok (lanes_with p workqueues)))

  -- what is known of the lanes
  record ArePart (lanes : List (Option ℕ)) : Type 0 where
    few : many ≤ 4096
    same : lanes ≡ lanes_with p workqueues

  ArePart-part_lanes : (lanes : List (Option ℕ)) → part_lanes p workqueues ≡ Ok lanes → ArePart lanes
  ArePart-part_lanes lanes e = chosen are_all_whole (ltb 4096 many) refl e
    where
      chosen : (whole far : Bool) → ltb 4096 many ≡ far → lanes_if whole far ≡ Ok lanes → ArePart lanes
      chosen false far is e = absurd cc
      chosen true true is e = absurd cc
      chosen true false is e = record { few = ltb-false 4096 many is; same = cc }

-- a workqueue that holds a member is one of them
workqueue_with-below : (group_of : List ℕ) (workqueues : List (List ℕ)) (g q : ℕ)
    → workqueue_with group_of workqueues g ≡ Some q → q < length workqueues
workqueue_with-below group_of workqueues g q e = elim (cases_Bool (holds_member group_of (concat workqueues) g)) [
  | inl held ↦
      let own = HasWorkqueue-held group_of workqueues g held in
      let same : own.workqueue ≡ q = some_same own.workqueue q (sym own.is ∙ e) in
      omega (arith, own.below, same)
  | inr free ↦
      none_some q
      (sym (position-none (λ items. holds_member group_of items g) workqueues
      (any_holds group_of workqueues g false free)) ∙ e)
]
  where
    some_same : (a b : ℕ) → Some a ≡ Some b → a ≡ b
    some_same a b e = cc

    none_some : (a : ℕ) → None ≡ Some a → q < length workqueues
    none_some a e = absurd cc

pub IsFixed-part : (p : Partition) (workqueues : List (List ℕ)) (lanes : List (Option ℕ)) (bare : List Bool)
    → part_lanes p workqueues ≡ Ok lanes → length bare ≡ length workqueues
    → IsFixed (length lanes) (record { lane_of_group = lanes; bare = bare })
IsFixed-part p workqueues lanes bare e long =
    let part = ArePart-part_lanes p workqueues lanes e in
    record {
      one_each = refl;
      within = λ g q stays.
          let inside : g < length lanes = slice_get_within lanes g (Some q) stays in
          let few : g < p.groups = omega (arith, inside, ap length part.same, length-lanes_with p workqueues) in
          let held : workqueue_with p.group_of workqueues g ≡ Some q =
          sym (get_or-lanes_with p workqueues g None few)
          ∙ ap (λ (ls : List (Option ℕ)). get_or ls g None) (sym part.same)
          ∙ get_or_from_slice_get lanes g (Some q) None stays in
          omega (arith, long, workqueue_with-below p.group_of workqueues g q held);
      few = omega (arith, long, part.few, ap (count_by has_none) part.same);
    }

pub length-part : (p : Partition) (workqueues : List (List ℕ)) (lanes : List (Option ℕ))
    → part_lanes p workqueues ≡ Ok lanes → length lanes ≡ p.groups
length-part p workqueues lanes e =
    let part = ArePart-part_lanes p workqueues lanes e in ap length part.same ∙ length-lanes_with p workqueues
