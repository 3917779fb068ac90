-- Verdicts: what it means that an assignment is found to be safe, or to deadlock.
use Rattle.std.specs.Prelude.{◌≡◌, ℕ, ◌<◌, List, length, slice_index, Option, Some, None}
use Rattle.wq_items.specs.Chain.{Circle}
use Rattle.wq_items.specs.Table.{ItemWaits}
use Rattle.wq_groups.specs.Declaration.{Declaration}
use Rattle.wq_groups.specs.Assignment.{Assignment, IsAssignment, item_lane}
use Rattle.wq_graph.specs.declared.arc.WaitArc.{WaitArc}
use Rattle.wq_graph.specs.Graph.{lane_graph}
use Rattle.wq_levels.specs.Ranks.{AreRanks}
use Rattle.wq_levels.specs.Walks.{IsWalkedCircle}
use Rattle.wq_core.specs.declared.step.Step.{Step}
use Rattle.wq_core.specs.Wiring.{LaneWaits, wiring, own_lanes}
use Rattle.wq_core.specs.Deadlock.{IsSafe, DeadlocksBy}
use Rattle.wq_deadlock.specs.declared.outcome.Verdict.{Verdict}
use Rattle.wq_deadlock.specs.declared.outcome.Verdict.TheVariants as verdict
use Rattle.wq_deadlock.specs.CircleRun.{IsCircleRun}

-- an assignment of the declaration's groups, no run of which ends stuck; each lane has its rank in the wait graph of
-- the lanes; and along every declared flush the rank falls, from the lane of the item to that of its target
pub record IsSafeByRanks (d : Declaration) (a : Assignment) (ranks : List ℕ) : Type 0 where
  pub assignment : IsAssignment d.groups a
  pub safe : IsSafe (wiring d a)
  pub one_each : length ranks ≡ a.lanes
  pub are_ranks : AreRanks (lane_graph d a) ranks
  pub fall : (i j : ℕ) → ItemWaits d.waits i j
      → slice_index ranks (item_lane a d.group_of j) < slice_index ranks (item_lane a d.group_of i)

-- an assignment of the declaration's groups, whose lanes wait in the circle of the walk; the steps are the run of this
-- circle; and they are a run that ends stuck, with each item queued once and flushing as declared
pub record IsDeadlock (d : Declaration) (a : Assignment) (steps : List Step) : Type 0 where
  pub assignment : IsAssignment d.groups a
  pub lanes_wait : Circle (LaneWaits (wiring d a))
  pub circle : List WaitArc
  pub walked : IsWalkedCircle (lane_graph d a) circle
  pub is_run : IsCircleRun (wiring d a) circle steps
  pub deadlocks : DeadlocksBy (wiring d a) steps

-- what a verdict on an assignment means
abbrev pub IsVerdict : {A : Type 0} → Declaration → Assignment → Verdict A → Type 0
IsVerdict d a (verdict.Safe ranks) = IsSafeByRanks d a ranks.items
IsVerdict d a (verdict.Deadlock steps) = IsDeadlock d a steps.items

-- no steps if one lane for each group is safe, or else the run by which that deadlocks
abbrev pub IsGroupsRun : Declaration → Option (List Step) → Type 0
IsGroupsRun d None = IsSafe (wiring d (own_lanes d.groups))
IsGroupsRun d (Some steps) = IsDeadlock d (own_lanes d.groups) steps
