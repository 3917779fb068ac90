-- Workqueues that are read behind fixed ones keep these.
use Rattle.std.proofs.Common.{◌≡◌, ℕ, zero, suc, ◌+◌, ◌<◌, ◌≤◌, ◌==◌, ◌&&◌, inl, inr, Bool, true, false, cond, ltb}
use Rattle.std.proofs.Common.{List}
use Rattle.std.proofs.Common.{[], ◌∷◌, ◌++◌, length, get_or, Option, Some, None, Ok, refl, sym, ap, ◌∙◌, arith}
use Rattle.std.proofs.Common.{append_assoc, append-nil, length-append}
use Rattle.std.specs.Prelude.{slice_get, unwrap_or}
use Rattle.std.specs.List.{list_any, position_or_len, range_with_len}
use Rattle.std.proofs.lemmas.Bool.{both_ways, cases_lt, eq-eqb, eqb-true, lt-ltb, ne_eqb}
use Rattle.std.proofs.lemmas.List.{get_or_append_left, get_or_default}
use Rattle.std.proofs.lemmas.List.Folds.{list_any_at}
use Rattle.std.proofs.lemmas.List.FromFn.{get_or-map-range_with_len, get_or-range_with_len, length-map-range_with_len}
use Rattle.std.proofs.lemmas.List.FromFn.{length-range_with_len}
use Rattle.std.proofs.lemmas.List.Sums.{passes_at_first, position_or_len_is}
use Rattle.std.proofs.lemmas.Map.Views.{any-filter_same}
use Rattle.std.proofs.lemmas.Option.{get_or_from_slice_get, slice_get_within}
use Rattle.wq_groups.specs.Assignment.{group_lane}
use Rattle.wq_groups.specs.Partition.{Partition, IsPartition}
use Rattle.wq_fixed.specs.Fixed.{Fixed, IsFixed, IsFree, Keeps, Stays, fixed_lanes}
use Rattle.wq_cert.specs.AroundReading.{fixed_items, fixed_workqueues, is_lane}
use Rattle.wq_cert.specs.Lines.{CertLine}
use Rattle.wq_cert.specs.Reading.{Read, next_line, wq_reading, next_workqueues, holds_member, hold_all}
use Rattle.wq_cert.specs.Reading.{workqueue_of_group}
use Rattle.wq_cert.specs.Reading.{assignment_of}
use Rattle.wq_cert.proofs.LaneLemmas.{HasWorkqueue, HasWorkqueue-held}
use Rattle.wq_cert.proofs.SpelledLines.{FollowsRead-and_read, same_ok}
use Rattle.wq_cert.proofs.WholeLemmas.{group_held}

-- ---- workqueues that follow others

-- those that were read before come first
pub follow : (names : List (List ℕ)) (group_of : List ℕ) (n : ℕ) (before all : List (List ℕ))
    (lines rest : List CertLine)
    → next_workqueues names group_of n before lines ≡ Ok (all, rest) → (more : List (List ℕ)) × (all ≡ before ++ more)
follow names group_of zero before all lines rest e =
    let same : (before, lines) ≡ (all, rest) = same_ok (before, lines) (all, rest) e in
    ([], sym (ap (λ (p : List (List ℕ) × List CertLine). p.0) same) ∙ sym (append-nil before))
follow names group_of (suc n) before all lines rest e =
    let next : List ℕ → List CertLine → Read (List (List ℕ)) =
    λ workqueue behind. next_workqueues names group_of n (before ++ (workqueue ∷ [])) behind in
    let found = FollowsRead-and_read next (next_line (wq_reading names group_of before) lines) (all, rest) e in
    let others = follow names group_of n (before ++ (found.value ∷ [])) all found.rest rest found.then in
    (found.value ∷ others.0, others.1 ∙ append_assoc before (found.value ∷ []) others.0)

-- ---- the fixed workqueues

and_true : (b : Bool) → (b && true) ≡ b
and_true true = refl
and_true false = refl

zero_plus : (k : ℕ) → 0 + k ≡ k
zero_plus k = omega arith

module _ (p : Partition) (f : Fixed) (partition : IsPartition p) (fixed : IsFixed p.groups f) where
  -- each group has a member
  member : (g : ℕ) → g < p.groups
      → list_any (λ i. get_or p.group_of i 0 == g) (range_with_len 0 (length p.group_of)) ≡ true
  member g within =
      let m = partition.filled g within in
      let n = length p.group_of in
      let own : get_or p.group_of m.0 0 ≡ g = get_or_default p.group_of m.0 0 g m.1 ∙ m.2 in
      let at : get_or (range_with_len 0 n) m.0 0 ≡ m.0 = get_or-range_with_len 0 n m.0 0 m.1 ∙ zero_plus m.0 in
      list_any_at (λ i. get_or p.group_of i 0 == g) (range_with_len 0 n) m.0 0
      (omega (arith, m.1, length-range_with_len 0 n))
      (ap (λ (i : ℕ). get_or p.group_of i 0 == g) at ∙ eq-eqb (get_or p.group_of m.0 0) g own)

  -- a fixed workqueue holds a member of a group exactly if the group stays there
  holds_fixed : (g q : ℕ) → g < p.groups
      → holds_member p.group_of (fixed_items p f q) g ≡ is_lane (get_or f.lane_of_group g None) q
  holds_fixed g q within =
      let own : Bool = is_lane (get_or f.lane_of_group g None) q in
      let same : (i : ℕ) → (get_or p.group_of i 0 == g) ≡ true
      → is_lane (get_or f.lane_of_group (get_or p.group_of i 0) None) q ≡ own =
      λ i is. ap (λ (h : ℕ). is_lane (get_or f.lane_of_group h None) q) (eqb-true (get_or p.group_of i 0) g is) in
      any-filter_same (λ i. get_or p.group_of i 0 == g)
      (λ i. is_lane (get_or f.lane_of_group (get_or p.group_of i 0) None) q) own same
      (range_with_len 0 (length p.group_of))
      ∙ ap (λ (b : Bool). own && b) (member g within) ∙ and_true own

  length-fixed : length (fixed_workqueues p f) ≡ fixed_lanes f
  length-fixed = length-map-range_with_len (fixed_items p f) 0 (fixed_lanes f)

  module _ (more : List (List ℕ)) where
    abbrev all : List (List ℕ)
    all = fixed_workqueues p f ++ more

    length-all : length all ≡ fixed_lanes f + length more
    length-all = length-append (fixed_workqueues p f) more ∙ ap (λ (n : ℕ). n + length more) length-fixed

    all_at : (k : ℕ) → k < fixed_lanes f → get_or all k [] ≡ fixed_items p f k
    all_at k below =
        get_or_append_left (fixed_workqueues p f) more [] k (omega (arith, below, length-fixed))
        ∙ get_or-map-range_with_len (fixed_items p f) 0 (fixed_lanes f) k k [] below (omega arith)

    -- the first workqueue with a member of a group that stays is the fixed one
    stays_there : (g q : ℕ) → g < p.groups → Stays f g q → workqueue_of_group p.group_of all g ≡ q
    stays_there g q within stays =
        let holds : List ℕ → Bool = λ items. holds_member p.group_of items g in
        let below : q < fixed_lanes f = fixed.within g q stays in
        let inside : q < length all = omega (arith, below, length-all) in
        let lane : get_or f.lane_of_group g None ≡ Some q =
        get_or_from_slice_get f.lane_of_group g (Some q) None stays in
        let here : holds (get_or all q []) ≡ true =
        ap holds (all_at q below) ∙ holds_fixed g q within ∙ ap (λ (o : Option ℕ). is_lane o q) lane
        ∙ eq-eqb q q refl in
        let before : (k : ℕ) → k < q → holds (get_or all k []) ≡ false =
        λ k lt. ap holds (all_at k (omega (arith, lt, below))) ∙ holds_fixed g k within
        ∙ ap (λ (o : Option ℕ). is_lane o k) lane ∙ ne_eqb q k (λ e. omega (arith, e, lt)) in
        let place : position_or_len holds all ≡ q =
        position_or_len_is holds all q [] (omega (arith, inside)) before (λ lt. here) in
        ap (λ (n : ℕ). unwrap_or (cond (ltb n (length all)) (Some n) None) 0) place
        ∙ ap (λ (b : Bool). unwrap_or (cond b (Some q) None) 0) (lt-ltb q (length all) inside)

    -- no fixed workqueue has a member of a free group
    is_new : (g : ℕ) → g < p.groups → IsFree f g → hold_all (length p.group_of) all ≡ true
        → fixed_lanes f ≤ workqueue_of_group p.group_of all g
    is_new g within free whole =
        let holds : List ℕ → Bool = λ items. holds_member p.group_of items g in
        let found : HasWorkqueue p.group_of all g =
        HasWorkqueue-held p.group_of all g (group_held p all g partition whole within) in
        let is : workqueue_of_group p.group_of all g ≡ found.workqueue = ap (λ o. unwrap_or o 0) found.is in
        let lane : get_or f.lane_of_group g None ≡ None = get_or_from_slice_get f.lane_of_group g None None free in
        let place : position_or_len holds all ≡ found.workqueue = first_place holds all found.workqueue found.is in
        elim (cases_lt found.workqueue (fixed_lanes f)) [
          | inl early ↦ absurd (
              both_ways (holds (get_or all found.workqueue []))
              (ap holds (all_at found.workqueue early) ∙ holds_fixed g found.workqueue within
              ∙ ap (λ (o : Option ℕ). is_lane o found.workqueue) lane)
              (ap (λ (k : ℕ). holds (get_or all k [])) (sym place)
              ∙ passes_at_first holds all [] (omega (arith, place, found.below)))
              )
          | inr late ↦ omega (arith, late, is)
        ]
      where
        first_place : (holds : List ℕ → Bool) (xs : List (List ℕ)) (q : ℕ)
            → cond (ltb (position_or_len holds xs) (length xs)) (Some (position_or_len holds xs)) None ≡ Some q
            → position_or_len holds xs ≡ q
        first_place holds xs q e = chosen (ltb (position_or_len holds xs) (length xs)) e
          where
            chosen : (b : Bool) → cond b (Some (position_or_len holds xs)) None ≡ Some q
                → position_or_len holds xs ≡ q
            chosen true e = cc
            chosen false e = absurd cc

    -- so the assignment to all of these keeps the fixed ones
    pub Keeps-read : hold_all (length p.group_of) all ≡ true
        → Keeps f (record { assignment = assignment_of p all; bare = f.bare })
    Keeps-read whole = record {
      lanes = omega (arith, length-all);
      bare = λ q within. refl;
      stays = λ g q stays.
          let within : g < p.groups = group_within g (Some q) stays in
          lane_at g within ∙ stays_there g q within stays;
      new = λ g free.
          let within : g < p.groups = group_within g None free in
          let late : fixed_lanes f ≤ workqueue_of_group p.group_of all g = is_new g within free whole in
          let lane : group_lane (assignment_of p all) g ≡ workqueue_of_group p.group_of all g = lane_at g within in
          omega (arith, late, lane);
    }
      where
        group_within : (g : ℕ) (lane : Option ℕ) → slice_get f.lane_of_group g ≡ Some lane → g < p.groups
        group_within g lane at =
            let inside : g < length f.lane_of_group = slice_get_within f.lane_of_group g lane at in
            omega (arith, inside, fixed.one_each)

        lane_at : (g : ℕ) → g < p.groups → group_lane (assignment_of p all) g ≡ workqueue_of_group p.group_of all g
        lane_at g within =
            get_or-map-range_with_len (workqueue_of_group p.group_of all) 0 p.groups g g 0 within (omega arith)
