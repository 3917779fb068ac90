-- The run after a printed circle: there is exactly one, and it deadlocks.
use Rattle.std.proofs.Common.{List, sym, subst, arith}
use Rattle.wq_groups.specs.Declaration.{Declaration, IsDeclaration}
use Rattle.wq_groups.specs.Assignment.{Assignment, IsAssignment, IsAssignmentOf}
use Rattle.wq_graph.specs.declared.arc.WaitArc.{WaitArc}
use Rattle.wq_graph.specs.Graph.{group_graph, lane_graph}
use Rattle.wq_levels.specs.Walks.{IsWalkedCircle}
use Rattle.wq_core.specs.declared.step.Step.{Step}
use Rattle.wq_core.specs.Wiring.{wiring, own_lanes}
use Rattle.wq_core.specs.Deadlock.{DeadlocksBy}
use Rattle.wq_deadlock.specs.CircleRun.{IsCircleRun}
use Rattle.wq_deadlock.proofs.CircleRuns.{IsCircleRun-exists, DeadlocksBy-circle_run}
use Rattle.wq_deadlock.proofs.OwnLanes.{IsAssignment-own_lanes, lane_graph-own_lanes}
use Rattle.wq_groups.specs.DeclaredGroups.{declared_waits, Declared}
use Rattle.wq_commands.proofs.AnswerLemmas.{IsSound, IsDeclaration-sound}

-- ---- each group on a workqueue of its own

module _ (s : Declared) (sound : IsSound s) where
  abbrev d : Declaration
  d = declared_waits s

  abbrev own : Assignment
  own = own_lanes s.partition.groups

  is : IsDeclaration d
  is = IsDeclaration-sound s sound

  assigned : IsAssignment d.groups own
  assigned = IsAssignment-own_lanes d.groups

  -- the workqueues wait as the groups do
  on_own_lanes : (circle : List WaitArc) → IsWalkedCircle (group_graph d) circle → IsWalkedCircle (lane_graph d own) circle
  on_own_lanes circle walked = subst (λ (graph : List (List WaitArc)). IsWalkedCircle graph circle) (sym (lane_graph-own_lanes d is)) walked

  pub IsCircleRun-own_lanes : (circle : List WaitArc) → IsWalkedCircle (group_graph d) circle → (steps : List Step) × IsCircleRun (wiring d own) circle steps
  IsCircleRun-own_lanes circle walked = IsCircleRun-exists d own is assigned circle (on_own_lanes circle walked)

  pub DeadlocksBy-own_lanes : (circle : List WaitArc) (steps : List Step) → IsWalkedCircle (group_graph d) circle → IsCircleRun (wiring d own) circle steps → DeadlocksBy (wiring d own) steps
  DeadlocksBy-own_lanes circle steps walked is_run = DeadlocksBy-circle_run d own is assigned circle (on_own_lanes circle walked) steps is_run

  -- there are few workqueues
  pub IsAssignmentOf-own_lanes : IsAssignmentOf s.partition.groups own
  IsAssignmentOf-own_lanes = record { assignment = assigned; few = omega (arith, is.partition.few_groups, is.partition.few_items) }
