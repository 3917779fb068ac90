-- Plans are least: the longest chain has as many groups as there are lanes.
use Rattle.std.proofs.Common.{◌≡◌, ℕ, ◌<◌, List, [], ◌∷◌, length, inl, inr, subst, sym, ap, ◌∙◌, arith}
use Rattle.std.specs.Prelude.{slice_get, Some}
use Rattle.std.specs.List.{All}
use Rattle.std.proofs.lemmas.Bool.{cases_lt}
use Rattle.std.proofs.lemmas.List.Elements.{All-nil, All-cons}
use Rattle.std.proofs.lemmas.Option.{get_or_from_slice_get, slice_get_within}
use Rattle.std.proofs.lemmas.List.{nil_from_length}
use Rattle.wq_items.specs.Chain.{IsChain}
use Rattle.wq_groups.specs.Declaration.{Declaration, GroupWaits, IsDeclaration}
use Rattle.wq_groups.specs.Assignment.{Assignment, IsAssignment, group_lane}
use Rattle.wq_core.specs.Deadlock.{IsLeast}
use Rattle.wq_core.proofs.Least.{IsLeast-chain}
use Rattle.wq_plan.specs.Plan.{IsPlan, lanes_of}
use Rattle.wq_plan.proofs.Lanes.{lanes_of-above, lanes_of-some}

module _ (d : Declaration) (is : IsDeclaration d) where
  -- the group of an item is one of the groups
  group-below : (i g : ℕ) → slice_get d.group_of i ≡ Some g → g < d.groups
  group-below i g of_item = subst (λ h. h < d.groups) (get_or_from_slice_get d.group_of i g 0 of_item) (is.partition.within i 0 (slice_get_within d.group_of i g of_item))

  waiting-group : (g h : ℕ) → GroupWaits d g h → g < d.groups
  waiting-group g h waits = group-below waits.item g waits.of_item

  awaited-group : (g h : ℕ) → GroupWaits d g h → h < d.groups
  awaited-group g h waits = group-below waits.target h waits.of_target

  chain-below : (g : ℕ) (others : List ℕ) → g < d.groups → IsChain (GroupWaits d) (g ∷ others) → All (λ v. v < d.groups) (g ∷ others)
  chain-below g [] below chain = All-cons (λ v. v < d.groups) g [] below (All-nil (λ v. v < d.groups))
  chain-below g (h ∷ others) below chain = All-cons (λ v. v < d.groups) g (h ∷ others) below (chain-below h others (awaited-group g h chain.0) chain.1)

  module _ (a : Assignment) (plan : IsPlan d a) (falls : (g h : ℕ) → g < d.groups → GroupWaits d g h → group_lane a h < group_lane a g) where
    IsAssignment-plan : IsAssignment d.groups a
    IsAssignment-plan = record { one_each = plan.one_each; within = subst (λ n. All (λ l. l < n) a.lane_of_group) (sym plan.count) (lanes_of-above a.lane_of_group) }

    all_fall : (g h : ℕ) → GroupWaits d g h → group_lane a h < group_lane a g
    all_fall g h waits = falls g h (waiting-group g h waits) waits

    pub IsLeast-lanes_fall : IsLeast d a
    IsLeast-lanes_fall = elim (cases_lt 0 (length a.lane_of_group)) [
      | inl some ↦
          let last = lanes_of-some a.lane_of_group some in
          let first : last.0 < d.groups = omega (arith, last.1, plan.one_each) in
          let begins = (plan.ranks last.0 first).0 in
          IsLeast-chain d a (last.0 ∷ begins.0) is IsAssignment-plan all_fall begins.1 (chain-below last.0 begins.0 first begins.1) (begins.2 ∙ last.2 ∙ sym plan.count)
      | inr none ↦
          let empty : a.lane_of_group ≡ [] = nil_from_length a.lane_of_group (omega (arith, none)) in
          let lanes : 0 ≡ a.lanes = sym (plan.count ∙ ap lanes_of empty) in
          IsLeast-chain d a [] is IsAssignment-plan all_fall tt (All-nil (λ v. v < d.groups)) lanes
    ]
