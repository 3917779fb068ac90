-- Each circle in which lanes wait has a run, by which the assignment deadlocks.
use Rattle.std.proofs.Common.{◌≡◌, List, [], ◌++◌, refl, sym, subst}
use Rattle.wq_groups.specs.Declaration.{Declaration, IsDeclaration}
use Rattle.wq_groups.specs.Assignment.{Assignment, IsAssignment}
use Rattle.wq_graph.specs.declared.arc.WaitArc.{WaitArc}
use Rattle.wq_graph.specs.Graph.{group_graph, lane_graph, without}
use Rattle.wq_graph.proofs.LeavingOut.{without-none}
use Rattle.wq_levels.specs.Walks.{IsWalkedCircle, LeadsRound}
use Rattle.wq_levels.proofs.Walks.{LeadsRound-walked}
use Rattle.wq_core.specs.declared.step.Step.{Step}
use Rattle.wq_core.specs.Wiring.{Wiring, IsWiring, wiring, own_lanes}
use Rattle.wq_core.specs.Runs.{end_of, IsRun}
use Rattle.wq_core.specs.Deadlock.{DeadlocksBy}
use Rattle.wq_core.specs.Knot.{IsKnot}
use Rattle.wq_core.specs.Played.{queue_order}
use Rattle.wq_core.proofs.KnotRuns.{DeadlocksBy-knot, IsRun-queue_order}
use Rattle.wq_core.proofs.Playing.{IsPlayedFrom-exists}
use Rattle.wq_core.proofs.Sound.{IsSoundState-end_of}
use Rattle.wq_core.proofs.Wirings.{IsWiring-wiring}
use Rattle.wq_deadlock.specs.CircleRun.{flushing_items, IsCircleRun}
use Rattle.wq_deadlock.proofs.CircleKnots.{IsKnot-flushing_items}
use Rattle.wq_deadlock.proofs.OwnLanes.{IsAssignment-own_lanes, lane_graph-own_lanes}

module _ (d : Declaration) (a : Assignment) (declaration : IsDeclaration d) (assignment : IsAssignment d.groups a)
    (circle : List WaitArc) where
  abbrev w : Wiring
  w = wiring d a

  sound : IsWiring w
  sound = IsWiring-wiring d a declaration assignment

  module _ (round : LeadsRound (lane_graph d a) circle) where
    knot : IsKnot w (flushing_items circle)
    knot =
        let all : lane_graph d a ≡ without [] (lane_graph d a) = sym (without-none [] (lane_graph d a) (λ v. refl)) in
        IsKnot-flushing_items d a [] declaration assignment circle
        (subst (λ (g : List (List WaitArc)). LeadsRound g circle) all round)

    -- its first items can be queued first, and then all others
    pub IsRun-flushing_items : IsRun w (queue_order w (flushing_items circle))
    IsRun-flushing_items = IsRun-queue_order w (flushing_items circle) sound knot

    pub IsCircleRun-round : (steps : List Step) × IsCircleRun w circle steps
    IsCircleRun-round =
        let start = queue_order w (flushing_items circle) in
        let played = IsPlayedFrom-exists w (end_of w start) (IsSoundState-end_of w start IsRun-flushing_items) in
        (start ++ played.0, record { played = played.0; is_played = played.1; all = refl })

    pub DeadlocksBy-round : (steps : List Step) → IsCircleRun w circle steps → DeadlocksBy w steps
    DeadlocksBy-round steps is_run =
        subst (λ (all : List Step). DeadlocksBy w all) (sym is_run.all)
        (DeadlocksBy-knot w (flushing_items circle) is_run.played sound knot is_run.is_played)

  module _ (walked : IsWalkedCircle (lane_graph d a) circle) where
    pub IsCircleRun-exists : (steps : List Step) × IsCircleRun w circle steps
    IsCircleRun-exists = IsCircleRun-round (LeadsRound-walked (lane_graph d a) circle walked)

    pub DeadlocksBy-circle_run : (steps : List Step) → IsCircleRun w circle steps → DeadlocksBy w steps
    DeadlocksBy-circle_run = DeadlocksBy-round (LeadsRound-walked (lane_graph d a) circle walked)

-- with a lane for each group, any circle of groups has one
module _ (d : Declaration) (declaration : IsDeclaration d) (circle : List WaitArc)
    (round : LeadsRound (group_graph d) circle) where
  pub LeadsRound-own_lanes : LeadsRound (lane_graph d (own_lanes d.groups)) circle
  LeadsRound-own_lanes =
      subst (λ (g : List (List WaitArc)). LeadsRound g circle) (sym (lane_graph-own_lanes d declaration)) round

  pub DeadlocksBy-groups : (steps : List Step) → IsCircleRun (wiring d (own_lanes d.groups)) circle steps
      → DeadlocksBy (wiring d (own_lanes d.groups)) steps
  DeadlocksBy-groups =
      DeadlocksBy-round d (own_lanes d.groups) declaration (IsAssignment-own_lanes d.groups) circle LeadsRound-own_lanes
