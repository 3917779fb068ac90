-- Laws of plans.
use Rattle.std.proofs.Common.{◌≡◌, ℕ, ◌+◌, ◌<◌, ◌≤◌, ◌^◌, List, length, refl, sym, ap, ◌∙◌, subst, ext_get_or, arith}
use Rattle.std.specs.List.{All}
use Rattle.std.proofs.lemmas.List.FromFn.{length-map-range_with_len}
use Rattle.wq_items.specs.Chain.{IsChain, HasCircle}
use Rattle.wq_items.proofs.Chains.{IsRank-unique}
use Rattle.wq_items.proofs.Circles.{no_circle_from_ranks}
use Rattle.wq_groups.specs.Declaration.{Declaration, GroupWaits, IsDeclaration}
use Rattle.wq_groups.specs.Assignment.{Assignment, group_lane}
use Rattle.wq_graph.specs.declared.arc.WaitArc.{WaitArc}
use Rattle.wq_graph.specs.Graph.{HasArc, arcs_from, group_graph}
use Rattle.wq_levels.specs.Ranks.{AreRanks}
use Rattle.wq_levels.specs.Walks.{IsWalkedCircle}
use Rattle.wq_plan.specs.Plan.{IsPlan, lanes_of, chain_of_plan}
use Rattle.wq_plan.specs.Solve.{IsPlanned, IsCircled}
use Rattle.wq_levels.proofs.OneCircle.{HasCircle-walked}
use Rattle.wq_levels.proofs.Ranks.{AreRanks-few}
use Rattle.wq_plan.proofs.Relations.{HasCircle-implied, IsRank-same}
use Rattle.wq_plan.proofs.Ranked.{ranks-fall, ranks-most}
use Rattle.wq_plan.proofs.Lanes.{lanes_of-above, lanes_of-most}
use Rattle.wq_core.specs.Wiring.{wiring}
use Rattle.wq_core.specs.Deadlock.{IsSafe, IsLeast}
use Rattle.wq_core.proofs.Least.{Deadlocks-circle_of_groups}
use Rattle.wq_plan.proofs.LeastPlans.{IsLeast-lanes_fall}
use Rattle.wq_plan.proofs.SafePlans.{IsSafe-lanes_fall}
use Rattle.wq_graph.proofs.Graphs.{IsGraph-group_graph, GroupWaits-HasArc}

-- the wait graph has the groups for vertices
pub length-group_graph : (d : Declaration) → length (group_graph d) ≡ d.groups
length-group_graph d = length-map-range_with_len (arcs_from d.waits d.group_of) 0 d.groups

module _ (d : Declaration) (a : Assignment) (plan : IsPlan d a) where
  -- no circle has a plan
  pub IsPlan-no_circle : ¬ HasCircle (GroupWaits d) d.groups
  IsPlan-no_circle = no_circle_from_ranks (GroupWaits d) d.groups (λ g group. (group_lane a g, plan.ranks g group))

  -- a group's lane is above that of each group that it waits for
  pub IsPlan-falls : (g h : ℕ) → g < d.groups → GroupWaits d g h → group_lane a h < group_lane a g
  IsPlan-falls = ranks-fall (GroupWaits d) d.groups a.lane_of_group plan.one_each plan.ranks

  -- no chain has more groups than there are lanes
  pub IsPlan-most : (vs : List ℕ) → IsChain (GroupWaits d) vs → All (λ v. v < d.groups) vs → length vs ≤ a.lanes
  IsPlan-most vs chain below = rw plan.count (ranks-most (GroupWaits d) d.groups a.lane_of_group plan.one_each
      plan.ranks vs chain below)

-- a plan is least
pub IsLeast-plan : (d : Declaration) (a : Assignment) → IsDeclaration d → IsPlan d a → IsLeast d a
IsLeast-plan d a is plan = IsLeast-lanes_fall d is a plan (IsPlan-falls d a plan)

-- no run of a plan ends stuck
pub IsSafe-plan : (d : Declaration) (a : Assignment) → IsDeclaration d → IsPlan d a → IsSafe (wiring d a)
IsSafe-plan d a is plan = IsSafe-lanes_fall d is a (IsPlan-falls d a plan)

-- a declaration has one plan
pub IsPlan-unique : (d : Declaration) (a b : Assignment) → IsPlan d a → IsPlan d b → a ≡ b
IsPlan-unique d a b one other =
    let same : a.lane_of_group ≡ b.lane_of_group =
    ext_get_or 0 a.lane_of_group b.lane_of_group (one.one_each ∙ sym other.one_each) (λ g fits.
    let group : g < d.groups = omega (arith, one.one_each) in
    IsRank-unique (GroupWaits d) g (group_lane a g) (group_lane b g) (one.ranks g group) (other.ranks g group)) in
    let count : a.lanes ≡ b.lanes = one.count ∙ ap lanes_of same ∙ sym other.count in
    rw (count, same) refl

module _ (d : Declaration) (is : IsDeclaration d) where
  -- a plan's lanes are the ranks in the wait graph of the groups
  pub AreRanks-from_plan : (a : Assignment) → IsPlan d a → AreRanks (group_graph d) a.lane_of_group
  AreRanks-from_plan a plan = record {
    one_each = plan.one_each ∙ sym (length-group_graph d);
    longest = λ g fits. IsRank-same (GroupWaits d) (HasArc (group_graph d)) (GroupWaits-HasArc d is) g (group_lane a g)
        (plan.ranks g (omega (arith, length-group_graph d)));
  }

  pub IsPlan-from_ranks : (a : Assignment) → AreRanks (group_graph d) a.lane_of_group → a.lanes
      ≡ lanes_of a.lane_of_group → IsPlan d a
  IsPlan-from_ranks a are count = record {
    one_each = are.one_each ∙ length-group_graph d;
    ranks = λ g group.
        IsRank-same (HasArc (group_graph d)) (GroupWaits d)
        (λ v w. ((GroupWaits-HasArc d is v w).1, (GroupWaits-HasArc d is v w).0)) g (group_lane a g)
        (are.longest g (omega (arith, length-group_graph d)));
    count = count;
  }

  -- there are no more lanes than groups
  pub IsPlan-lanes : (a : Assignment) → IsPlan d a → a.lanes ≤ d.groups
  IsPlan-lanes a plan =
      let most = lanes_of-most (length (group_graph d)) a.lane_of_group
      (AreRanks-few (group_graph d) a.lane_of_group (IsGraph-group_graph d is) (AreRanks-from_plan a plan)) in
      omega (arith, plan.count, most, length-group_graph d)

  -- a circle of the wait graph is one of groups
  pub HasCircle-from_graph : HasCircle (HasArc (group_graph d)) (length (group_graph d))
      → HasCircle (GroupWaits d) d.groups
  HasCircle-from_graph circle =
      subst (HasCircle (GroupWaits d)) (length-group_graph d)
      (HasCircle-implied (HasArc (group_graph d)) (GroupWaits d) (λ v w. (GroupWaits-HasArc d is v w).1)
      (length (group_graph d)) circle)

  module _ (ranks : List ℕ) (are : AreRanks (group_graph d) ranks) where
    -- ranks are small
    pub AreRanks-fit : All (λ l. l + 1 < 2 ^ 16) ranks
    AreRanks-fit = λ k e fits. omega (
      arith,
      AreRanks-few (group_graph d) ranks (IsGraph-group_graph d is) are k e
          fits,
      (IsGraph-group_graph d is).few,
    )

    -- and so is the number of lanes, each of which is one of these
    pub AreRanks-lanes : (lanes_of ranks ≤ 4096) × All (λ l. l < lanes_of ranks) ranks
    AreRanks-lanes = (
      omega (
        arith,
        lanes_of-most (length (group_graph d)) ranks
            (AreRanks-few (group_graph d) ranks (IsGraph-group_graph d is) are),
        (IsGraph-group_graph d is).few,
      ),
      lanes_of-above ranks,
    )

    -- the assignment of the ranks is planned
    pub IsPlanned-from_ranks : (a : Assignment) (chain : List WaitArc) → a.lane_of_group ≡ ranks → a.lanes
        ≡ lanes_of ranks → chain ≡ chain_of_plan d ranks → IsPlanned d a chain
    IsPlanned-from_ranks a chain same count longest =
        let plan : IsPlan d a = IsPlan-from_ranks a (rw same are) (rw same count) in
        record {
          plan = plan;
          no_circle = IsPlan-no_circle d a plan;
          least = IsLeast-lanes_fall d is a plan (IsPlan-falls d a plan);
          longest = rw same longest;
        }

  -- a circle of the walk is one of groups
  pub IsCircled-from_walk : (circle : List WaitArc) → IsWalkedCircle (group_graph d) circle → IsCircled d circle
  IsCircled-from_walk circle walked =
      let has : HasCircle (GroupWaits d) d.groups =
      HasCircle-from_graph (HasCircle-walked (group_graph d) (IsGraph-group_graph d is) circle walked) in
      record {
        has_circle = has;
        walked = walked;
        deadlocks = λ a assignment. Deadlocks-circle_of_groups d a is
            assignment has.0;
      }
