-- What is placed rank by rank.
use Rattle.std.proofs.Common.{◌≡◌, ◌≢◌, ℕ, ◌+◌, ◌-◌, ◌<◌, ◌≤◌, ◌⊎◌, inl, inr, Bool, List, length, refl, sym, subst, ◌∙◌, arith}
use Rattle.std.specs.Prelude.{Option, Some, None, max, slice_index, slice_index_or, Contains}
use Rattle.std.proofs.lemmas.Bool.{cases_eq, cases_lt}
use Rattle.std.proofs.lemmas.List.{get_or_default}
use Rattle.std.proofs.lemmas.List.Elements.{Contains-get_or}
use Rattle.wq_core.specs.Workqueues.{Workqueues}
use Rattle.wq_repair.specs.Changes.{IsRescued, HoldsAny, lane_in}
use Rattle.wq_repair.specs.Marks.{IsMarked, Marks}
use Rattle.wq_repair.specs.Steps.{ArePlacedBy, HoldsMarked}
use Rattle.wq_repair.specs.Lanes.{nth_lane, AreFree, AreBareNow}
use Rattle.wq_repair.specs.Placing.{IsLaneOfRank, HasNoLane, HoldsRanked, AreLanesOfRanks, HasRanked, AreEmpty, AreTaken, AreRankedLanes}
use Rattle.wq_repair.specs.Placing.{AreHosted, CanBePlaced}
use Rattle.wq_repair.proofs.Marks.{IsMarked-below, cases_marked}
use Rattle.wq_repair.proofs.Readied.{all_or_one}
use Rattle.wq_repair.proofs.Taking.{nth_lane-in, nth_lane-new, nth_lane-below, few-held}

-- a rank has a lane, or none
cases_lane : (o : Option ℕ) → ((q : ℕ) × (o ≡ Some q)) ⊎ (o ≡ None)
cases_lane None = inr refl
cases_lane (Some q) = inl (q, refl)

one_lane : (o : Option ℕ) (p q : ℕ) → o ≡ Some p → o ≡ Some q → p ≡ q
one_lane o p q one other = let same : Some p ≡ Some q = sym one ∙ other in cc

module _ (old : Workqueues) (given stays leaves leave bare named movable : List Bool)
    (ranks empty lane_of : List ℕ) (before after : List (Option ℕ)) (most taken : ℕ)
    (long : length leaves ≡ length old.assignment.lane_of_group)
    (stays_long : length stays ≡ length old.assignment.lane_of_group)
    (ranks_long : length ranks ≡ length old.assignment.lane_of_group)
    (within : (g : ℕ) → g < length leaves → lane_in old g < old.assignment.lanes)
    (can : CanBePlaced old given stays leaves ranks most)
    (groups : ℕ) (lanes : AreLanesOfRanks old stays named ranks most groups before)
    (are_named : Marks (HoldsMarked old movable) old.assignment.lanes named)
    (leaving : Marks (HasRanked leaves ranks) most leave)
    (free : AreFree old.assignment.lanes empty)
    (are_empty : AreEmpty old empty)
    (took : AreTaken leave empty old.assignment.lanes most before after taken)
    (ranked : AreRankedLanes old leaves ranks after (length leaves) lane_of)
    (now : AreBareNow old leaves given lane_of (length leaves) bare) where
  there : ℕ
  there = old.assignment.lanes

  abbrev count : ℕ
  count = old.assignment.lanes + (taken - length empty)

  abbrev made : Workqueues
  made = record { assignment = record { lanes = old.assignment.lanes + (taken - length empty); lane_of_group = lane_of }; bare = bare }

  -- no lane that is taken held a group
  not_taken : (n g : ℕ) → g < length leaves → nth_lane empty old.assignment.lanes n ≢ lane_in old g
  not_taken n g is equal = elim (cases_lt n (length empty)) [
    | inl inside ↦
        let there_is : Contains empty (slice_index empty n) = Contains-get_or empty n 0 inside in
        ((are_empty (slice_index empty n)).0 there_is).1 (record { group = g; is_group = omega (arith, is, long); on = sym equal ∙ nth_lane-in empty old.assignment.lanes n inside })
    | inr new ↦ omega (arith, nth_lane-new empty old.assignment.lanes n new, within g is, equal)
  ]

  -- a group that leaves comes to one that stays and has its rank, or to a lane that is taken for it
  record Comes (g : ℕ) : Type 0 where
    number : ℕ
    is_taken : number < taken
    none : HasNoLane before (slice_index ranks g)
    lane : IsLaneOfRank after (slice_index ranks g) (nth_lane empty old.assignment.lanes number)
    on : slice_index lane_of g ≡ nth_lane empty old.assignment.lanes number

  had_or_comes : (g : ℕ) → g < length leaves → IsMarked leaves g
      → IsLaneOfRank before (slice_index ranks g) (slice_index lane_of g) ⊎ Comes g
  had_or_comes g is marked = elim (cases_lane (slice_index_or before (slice_index ranks g) None)) [
    | inl had ↦
        let equal : had.0 ≡ slice_index lane_of g = one_lane (slice_index_or after (slice_index ranks g) None) had.0 (slice_index lane_of g) (took.kept (slice_index ranks g) had.0 had.1) (ranked.marked g is marked) in
        inl (subst (IsLaneOfRank before (slice_index ranks g)) equal had.1)
    | inr none ↦
        let r_below : slice_index ranks g < most = can.below g (omega (arith, is, long, ranks_long)) in
        let leaves_it : IsMarked leave (slice_index ranks g) = (leaving.exactly (slice_index ranks g) r_below).1 (record { group = g; marked = marked; ranked = refl }) in
        let at = took.took (slice_index ranks g) r_below leaves_it none in
        inr (record {
          number = at.0;
          is_taken = at.1;
          none = none;
          lane = at.2;
          on = one_lane (slice_index_or after (slice_index ranks g) None) (slice_index lane_of g) (nth_lane empty old.assignment.lanes at.0) (ranked.marked g is marked) at.2;
        })
  ]

  comes : (g : ℕ) → g < length leaves → IsMarked leaves g → HoldsRanked old stays ranks (slice_index ranks g) (slice_index lane_of g) ⊎ Comes g
  comes g is marked = elim (had_or_comes g is marked) [
    | inl had ↦ inl (lanes.holds (slice_index ranks g) (slice_index lane_of g) had)
    | inr came ↦ inr came
  ]

  stays_below : (g : ℕ) → IsMarked stays g → g < length leaves
  stays_below g marked = omega (arith, IsMarked-below stays g marked, stays_long, long)

  stays_on : (g : ℕ) → IsMarked stays g → slice_index lane_of g ≡ lane_in old g
  stays_on g marked = ranked.others g (stays_below g marked) (can.apart g marked)

  ranked-stay : (g h : ℕ) → h < length leaves → IsMarked stays g → IsMarked leaves h → slice_index lane_of g ≡ slice_index lane_of h → slice_index ranks g ≡ slice_index ranks h
  ranked-stay g h h_is g_stays h_leaves equal = elim (comes h h_is h_leaves) [
    | inl holds ↦
        can.same g holds.group g_stays holds.marked (sym (stays_on g g_stays) ∙ equal ∙ sym holds.on) ∙ holds.ranked
    | inr came ↦ absurd (not_taken came.number g (stays_below g g_stays) (sym came.on ∙ sym equal ∙ stays_on g g_stays))
  ]

  ranked-leave : (g h : ℕ) → g < length leaves → h < length leaves → IsMarked leaves g → IsMarked leaves h → slice_index lane_of g ≡ slice_index lane_of h → slice_index ranks g ≡ slice_index ranks h
  ranked-leave g h g_is h_is g_leaves h_leaves equal = elim (comes g g_is g_leaves) [
    | inl holds ↦
        let k_on : slice_index lane_of holds.group ≡ slice_index lane_of h = stays_on holds.group holds.marked ∙ holds.on ∙ equal in
        sym holds.ranked ∙ ranked-stay holds.group h h_is holds.marked h_leaves k_on
    | inr came ↦ elim (comes h h_is h_leaves) [
      | inl holds ↦ absurd (not_taken came.number holds.group (stays_below holds.group holds.marked) (sym came.on ∙ equal ∙ sym holds.on))
      | inr also ↦
          let lane : IsLaneOfRank after (slice_index ranks h) (nth_lane empty old.assignment.lanes came.number) =
          subst (IsLaneOfRank after (slice_index ranks h)) (sym also.on ∙ sym equal ∙ came.on) also.lane in
          took.once (slice_index ranks g) (slice_index ranks h) came.number came.none also.none came.lane lane came.is_taken
    ]
  ]

  ranked-any : (g h : ℕ) → g < length leaves → h < length leaves → IsMarked stays g ⊎ IsMarked leaves g → IsMarked stays h ⊎ IsMarked leaves h
      → slice_index lane_of g ≡ slice_index lane_of h → slice_index ranks g ≡ slice_index ranks h
  ranked-any g h g_is h_is (inl g_stays) (inl h_stays) equal =
      can.same g h g_stays h_stays (sym (stays_on g g_stays) ∙ equal ∙ stays_on h h_stays)
  ranked-any g h g_is h_is (inl g_stays) (inr h_leaves) equal = ranked-stay g h h_is g_stays h_leaves equal
  ranked-any g h g_is h_is (inr g_leaves) (inl h_stays) equal = sym (ranked-stay h g g_is h_stays g_leaves (sym equal))
  ranked-any g h g_is h_is (inr g_leaves) (inr h_leaves) equal = ranked-leave g h g_is h_is g_leaves h_leaves equal

  pub within-placed : (g : ℕ) → g < length leaves → slice_index lane_of g < old.assignment.lanes + (taken - length empty)
  within-placed g is = elim (cases_marked leaves g) [
    | inr not ↦ omega (arith, ranked.others g is not, within g is)
    | inl marked ↦ elim (comes g is marked) [
      | inl holds ↦ omega (arith, holds.on, within holds.group (stays_below holds.group holds.marked))
      | inr came ↦ omega (arith, came.on, nth_lane-below empty old.assignment.lanes free came.number taken came.is_taken)
    ]
  ]

  -- ---- as many lanes as groups

  holds_or_not : (q k : ℕ) → (¬ ((k < length leaves) × (lane_in old k ≡ q))) ⊎ ((k < length leaves) × (lane_in old k ≡ q))
  holds_or_not q k = elim (cases_lt k (length leaves)) [
    | inr past ↦ inl (λ both. omega (arith, past, both.0))
    | inl lt ↦ elim (cases_eq (lane_in old k) q) [
      | inr other ↦ inl (λ both. other both.1)
      | inl equal ↦ inr (lt, equal)
    ]
  ]

  -- whoever has the rank for which a lane was taken is on it
  taken_holds : (n : ℕ) → n < taken → (g : ℕ) × (g < length lane_of) × (slice_index lane_of g ≡ nth_lane empty old.assignment.lanes n)
  taken_holds n lt =
      let at = took.all n lt in
      let some = (leaving.exactly at.0 at.1).0 at.2 in
      let is : some.group < length leaves = IsMarked-below leaves some.group some.marked in
      let lane : IsLaneOfRank after (slice_index ranks some.group) (nth_lane empty old.assignment.lanes n) =
      subst (λ (r : ℕ). IsLaneOfRank after r (nth_lane empty old.assignment.lanes n)) (sym some.ranked) at.3 in (
        some.group,
        omega (arith, is, ranked.one_each),
        one_lane (slice_index_or after (slice_index ranks some.group) None) (slice_index lane_of some.group) (nth_lane empty old.assignment.lanes n) (ranked.marked some.group is some.marked) lane,
      )

  -- a group is on each new lane
  holds-new : (q : ℕ) → old.assignment.lanes ≤ q → q < old.assignment.lanes + (taken - length empty) → (g : ℕ) × (g < length lane_of) × (slice_index lane_of g ≡ q)
  holds-new q new lt =
      let n : ℕ = q - old.assignment.lanes + length empty in
      let at = taken_holds n (omega (arith, lt, new)) in
      (at.0, at.1, at.2 ∙ nth_lane-new empty old.assignment.lanes n (omega arith) ∙ omega (arith, new))

  holds-lane : length empty ≤ taken → (q : ℕ) → q < old.assignment.lanes + (taken - length empty) → (g : ℕ) × (g < length lane_of) × (slice_index lane_of g ≡ q)
  holds-lane all q lt = elim (cases_lt q old.assignment.lanes) [
    | inr new ↦ holds-new q new lt
    | inl old_lane ↦ elim (all_or_one (λ (k : ℕ). ¬ ((k < length leaves) × (lane_in old k ≡ q))) (λ (k : ℕ). (k < length leaves) × (lane_in old k ≡ q)) (holds_or_not q) (length leaves)) [
      | inr some ↦ elim (cases_marked leaves some.0) [
        | inr not ↦ (some.0, omega (arith, some.2.0, ranked.one_each), ranked.others some.0 some.2.0 not ∙ some.2.1)
        | inl marked ↦ (
            let other = can.held some.0 some.2.0 marked in
            (other.0, omega (arith, other.1, ranked.one_each), ranked.others other.0 other.1 other.3 ∙ other.2 ∙ some.2.1)
            )
      ]
      | inl none ↦ (
          let nobody : ¬ HoldsAny old q = λ holds. (let is : holds.group < length leaves = omega (arith, holds.is_group, long) in none holds.group is (is, holds.on)) in
          let there_is = (are_empty q).1 (old_lane, nobody) in
          let at = taken_holds there_is.0 (omega (arith, there_is.1, all)) in (
            at.0,
            at.1,
            at.2 ∙ nth_lane-in empty old.assignment.lanes there_is.0 there_is.1 ∙ get_or_default empty there_is.0 0 q there_is.1 ∙ there_is.2,
          )
          )
    ]
  ]

  few : old.assignment.lanes + (taken - length empty) ≤ max old.assignment.lanes (length leaves)
  few = elim (cases_lt taken (length empty)) [
    | inl some_left ↦ omega (arith, some_left)
    | inr all ↦ omega (arith, few-held lane_of (old.assignment.lanes + (taken - length empty)) (holds-lane all), ranked.one_each)
  ]

  only : (g : ℕ) → g < length leaves → IsRescued made (lane_in old g) → IsRescued old (lane_in old g) ⊎ IsMarked given (lane_in old g)
  only g is rescued = elim (now.only (lane_in old g) (within g is) rescued) [
    | inl had ↦ inl had
    | inr comer ↦ elim (cases_marked leaves comer.group) [
      | inl marked ↦ elim (comes comer.group comer.is_group marked) [
        | inl holds ↦
            let equal : lane_in old holds.group ≡ lane_in old g = holds.on ∙ comer.on in
            subst (λ (q : ℕ). IsRescued old q ⊎ IsMarked given q) equal (can.fine holds.group holds.marked)
        | inr came ↦ absurd (not_taken came.number g is (sym came.on ∙ comer.on))
      ]
      | inr not ↦ elim comer.why [
        | inl marked ↦ absurd (not marked)
        | inr marked ↦ inr (subst (IsMarked given) (sym (ranked.others comer.group comer.is_group not) ∙ comer.on) marked)
      ]
    ]
  ]

  used : (q : ℕ) → old.assignment.lanes ≤ q → q < old.assignment.lanes + (taken - length empty) → HoldsAny made q
  used q new lt = let at = holds-new q new lt in record { group = at.0; is_group = at.1; on = at.2 }

  only_used : (q : ℕ) → q < old.assignment.lanes → IsRescued made q → IsRescued old q ⊎ HoldsAny made q
  only_used q lt rescued = elim (now.only q lt rescued) [
    | inl had ↦ inl had
    | inr comer ↦ inr (record { group = comer.group; is_group = omega (arith, comer.is_group, ranked.one_each); on = comer.on })
  ]

  below_group : {q : ℕ} → (holds : HoldsAny old q) → holds.group < length leaves
  below_group holds = omega (arith, holds.is_group, long)

  -- a group that moves to a lane that held groups moves to a named one
  pub AreHosted-made : AreHosted old movable leaves made
  AreHosted-made g is marked holds = elim (had_or_comes g is marked) [
    | inr came ↦ absurd (not_taken came.number holds.group (below_group holds) (sym came.on ∙ sym holds.on))
    | inl had ↦
        let q_below : slice_index lane_of g < old.assignment.lanes =
        omega (arith, holds.on, within holds.group (below_group holds)) in
        let marked_lane = lanes.on_named (slice_index ranks g) (slice_index lane_of g) had in
        (are_named.exactly (slice_index lane_of g) q_below).0 marked_lane
  ]

  pub ArePlacedBy-made : ArePlacedBy old given stays leaves ranks made
  ArePlacedBy-made = record {
    one_each = ranked.one_each;
    within = within-placed;
    more = omega arith;
    few = few;
    bare = omega (arith, now.few);
    stay = ranked.others;
    rescued = λ g is marked. now.rescued (slice_index lane_of g) (inr (record { group = g; is_group = is; why = inl marked; on = refl }));
    kept = λ q rescued. now.rescued q (inl rescued);
    given_one = λ g is not marked. now.rescued (lane_in old g) (inr (record { group = g; is_group = is; why = inr marked; on = ranked.others g is not }));
    only = only;
    used = used;
    only_used = only_used;
    ranked = ranked-any;
  }
