-- The groups that are found are those that need a rescuer.
use Rattle.std.proofs.Common.{◌≡◌, ℕ, ◌+◌, ◌-◌, ◌<◌, ◌≤◌, inl, inr, Bool, List, [], ◌∷◌, length, get_or, sym, ap, subst, ◌∙◌, arith}
use Rattle.std.specs.Prelude.{◌↔◌, slice_index}
use Rattle.std.proofs.lemmas.Bool.{cases_eq, cases_lt}
use Rattle.std.proofs.lemmas.List.{get_or_default}
use Rattle.std.proofs.lemmas.List.Elements.{Contains-get_or}
use Rattle.wq_items.specs.Chain.{IsChain, last_of}
use Rattle.wq_items.proofs.Pigeonhole.{repeats_from_length}
use Rattle.wq_groups.specs.Declaration.{Declaration, IsDeclaration}
use Rattle.wq_groups.specs.Assignment.{IsAssignment}
use Rattle.wq_graph.specs.Graph.{group_graph}
use Rattle.wq_graph.proofs.Graphs.{GroupWaits-HasArc}
use Rattle.wq_core.specs.Workqueues.{Workqueues}
use Rattle.wq_repair.specs.Changes.{IsRescued, IsNamed, IsNamedLane, lane_in}
use Rattle.wq_repair.specs.Needed.{BringsAlong, NeedsRescuerOf}
use Rattle.wq_repair.specs.Marks.{IsMarked, Marks}
use Rattle.wq_repair.specs.Together.{Lists}
use Rattle.wq_repair.specs.Steps.{Named, AreNamed, HoldsMarked}
use Rattle.wq_repair.specs.Following.{FoundGroups, HasGrown, BringsAlongBy, IsFollowed}
use Rattle.wq_repair.proofs.Rescuers.{IsLedTo-first, IsLedTo-next}
use Rattle.wq_repair.proofs.Marks.{Marks-as}
use Rattle.wq_repair.proofs.Marks.{IsMarked-below}

-- a list of what is marked isn't longer than the list of marks
pub Lists-few : (marks : List Bool) (list : List ℕ) → Lists marks list → length list ≤ length marks
Lists-few marks list lists = elim (cases_lt (length marks) (length list)) [
  | inr few ↦ few
  | inl many ↦
      let again = repeats_from_length (length marks) list (λ k e lt. IsMarked-below marks (get_or list k e) ((lists.exactly (get_or list k e)).0 (Contains-get_or list k e lt))) many in
      absurd (lists.once again.0 again.1 0 again.2 again.3 again.4)
]

module _ (d : Declaration) (old : Workqueues) (names : List ℕ) (declaration : IsDeclaration d)
    (before : IsAssignment d.groups old.assignment) (n : Named) (are : AreNamed d old names n) where
  lane_below : (g : ℕ) → g < d.groups → lane_in old g < old.assignment.lanes
  lane_below g is = before.within g 0 (omega (arith, is, before.one_each))

  along-by : (g h : ℕ) → g < d.groups → BringsAlong d old names g h → BringsAlongBy (group_graph d) old n g h
  along-by g h is (inl waits) = inl ((GroupWaits-HasArc d declaration g h).0 waits)
  along-by g h is (inr beside) = inr (record {
    unnamed = λ marked. beside.unnamed ((are.groups.exactly g is).0 marked);
    bare = beside.bare;
    named_lane = (are.lanes.exactly (lane_in old g) (lane_below g is)).1 beside.named_lane;
    is_group = omega (arith, beside.is_group, before.one_each);
    beside = beside.beside;
  })

  by-along : (g h : ℕ) → g < d.groups → BringsAlongBy (group_graph d) old n g h → BringsAlong d old names g h
  by-along g h is (inl arc) = inl ((GroupWaits-HasArc d declaration g h).1 arc)
  by-along g h is (inr by) = inr (record {
    unnamed = λ name. by.unnamed ((are.groups.exactly g is).1 name);
    bare = by.bare;
    named_lane = (are.lanes.exactly (lane_in old g) (lane_below g is)).0 by.named_lane;
    is_group = omega (arith, by.is_group, before.one_each);
    beside = by.beside;
  })

  pub IsFollowed-first : (f : FoundGroups) → length f.marks ≡ d.groups → ((g : ℕ) → g < d.groups → IsMarked f.marks g ↔ IsRescued old (lane_in old g)) → Lists f.marks f.list
      → IsFollowed d old names f 0
  IsFollowed-first f long exactly lists = record {
    one_each = long;
    lists = lists;
    sound = λ g marked. let is : g < d.groups = omega (arith, IsMarked-below f.marks g marked, long) in IsLedTo-first d old (BringsAlong d old names) g is ((exactly g is).0 marked);
    first = λ g is rescued. (exactly g is).1 rescued;
    followed = λ k h lt. absurd (omega (arith, lt));
    within = omega arith;
  }

  module _ (f : FoundGroups) (done : ℕ) (is : IsFollowed d old names f done) where
    listed-marked : (k : ℕ) → k < length f.list → IsMarked f.marks (slice_index f.list k)
    listed-marked k lt = (is.lists.exactly (slice_index f.list k)).0 (Contains-get_or f.list k 0 lt)

    pub listed-below : (k : ℕ) → k < length f.list → slice_index f.list k < d.groups
    listed-below k lt = omega (arith, IsMarked-below f.marks (slice_index f.list k) (listed-marked k lt), is.one_each)

    pub IsFollowed-next : (next : FoundGroups) → done < length f.list
        → HasGrown f next (BringsAlongBy (group_graph d) old n (slice_index f.list done))
        → IsFollowed d old names next (done + 1)
    IsFollowed-next next lt grown = record {
      one_each = grown.one_each ∙ is.one_each;
      lists = grown.lists is.lists;
      sound = λ g marked. elim (grown.added g marked) [
        | inl earlier ↦ is.sound g earlier
        | inr by ↦ IsLedTo-next d old (BringsAlong d old names) (slice_index f.list done) g (is.sound (slice_index f.list done) (listed-marked done lt)) (by-along (slice_index f.list done) g (listed-below done lt) by)
      ];
      first = λ g below rescued. grown.kept g (is.first g below rescued);
      followed = λ k h k_lt along. elim (cases_eq k done) [
        | inl last ↦
            let same : slice_index next.list k ≡ slice_index f.list done = ap (slice_index next.list) last ∙ grown.as_before done lt in
            grown.all h (along-by (slice_index f.list done) h (listed-below done lt) (subst (λ (x : ℕ). BringsAlong d old names x h) same along))
        | inr other ↦
            let earlier : k < done = omega (arith, k_lt, other) in
            let same : slice_index next.list k ≡ slice_index f.list k = grown.as_before k (omega (arith, earlier, lt)) in
            grown.kept h (is.followed k h earlier (subst (λ (x : ℕ). BringsAlong d old names x h) same along))
      ];
      within = omega (arith, grown.longer, lt);
    }

    pub work-less : done < length f.list → d.groups - (done + 1) < d.groups - done
    work-less lt = omega (arith, lt, Lists-few f.marks f.list is.lists, is.one_each)

    module _ (all : length f.list ≤ done) where
      closed : (g h : ℕ) → IsMarked f.marks g → BringsAlong d old names g h → IsMarked f.marks h
      closed g h marked along =
          let there = (is.lists.exactly g).1 marked in
          let same : g ≡ slice_index f.list there.0 = sym (get_or_default f.list there.0 0 g there.1 ∙ there.2) in
          is.followed there.0 h (omega (arith, there.1, all)) (subst (λ (x : ℕ). BringsAlong d old names x h) same along)

      chain_marked : (g : ℕ) (others : List ℕ) → IsChain (BringsAlong d old names) (g ∷ others) → IsMarked f.marks g → IsMarked f.marks (last_of g others)
      chain_marked g [] chain marked = marked
      chain_marked g (h ∷ others) chain marked = chain_marked h others chain.1 (closed g h marked chain.0)

      pub Marks-followed : Marks (NeedsRescuerOf d old names) d.groups f.marks
      Marks-followed = record {
        one_each = is.one_each;
        exactly = λ g below. (
          is.sound g,
          λ led. subst (IsMarked f.marks) led.ends (chain_marked led.first led.others led.chain (is.first led.first led.is_group led.rescued)),
        );
      }

-- a lane that holds a marked group is named
pub Marks-named_lanes : (d : Declaration) (old : Workqueues) (names : List ℕ) (named lanes : List Bool) (n : ℕ) → Marks (IsNamed d names) d.groups named → Marks (HoldsMarked old named) n lanes
    → Marks (IsNamedLane d old names) n lanes
Marks-named_lanes d old names named lanes n are_named are_lanes = Marks-as (HoldsMarked old named) (IsNamedLane d old names) n lanes same are_lanes
  where
    same : (q : ℕ) → q < n → HoldsMarked old named q ↔ IsNamedLane d old names q
    same q lt = (
      λ holds.
          let is : holds.group < d.groups = omega (arith, holds.is_group, are_named.one_each) in
          record { group = holds.group; is_group = is; named = (are_named.exactly holds.group is).0 holds.marked; on = holds.on },
      λ lane. record {
        group = lane.group;
        is_group = omega (arith, lane.is_group, are_named.one_each);
        marked = (are_named.exactly lane.group lane.is_group).1 lane.named;
        on = lane.on;
      },
    )
