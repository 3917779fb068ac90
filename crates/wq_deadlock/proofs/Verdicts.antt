-- What ranks of the lanes, and circles of lanes, say about an assignment.
use Rattle.std.proofs.Common.{◌≡◌, ℕ, ◌<◌, ◌≤◌, List, length, refl, subst, ◌∙◌, arith}
use Rattle.std.specs.Prelude.{slice_index}
use Rattle.std.proofs.lemmas.List.{length-map}
use Rattle.std.proofs.lemmas.List.FromFn.{length-map-range_with_len}
use Rattle.wq_items.specs.Chain.{Circle}
use Rattle.wq_items.specs.Table.{ItemWaits}
use Rattle.wq_items.proofs.Tables.{VertexWaits-items}
use Rattle.wq_groups.specs.Declaration.{Declaration, IsDeclaration}
use Rattle.wq_groups.specs.Assignment.{Assignment, IsAssignment, group_lane, item_lane, item_lanes}
use Rattle.wq_groups.proofs.Declarations.{waiting-item, awaited-item}
use Rattle.wq_groups.proofs.Lanes.{item_lanes-at, item_lanes-within}
use Rattle.wq_graph.specs.declared.arc.WaitArc.{WaitArc}
use Rattle.wq_graph.specs.Graph.{lane_graph, arcs_from, HasArc, IsGraph}
use Rattle.wq_graph.proofs.Graphs.{VertexWaits-lane_graph, IsGraph-lane_graph}
use Rattle.wq_levels.specs.Ranks.{AreRanks}
use Rattle.wq_levels.specs.Walks.{IsWalkedCircle, LeadsRound}
use Rattle.wq_levels.proofs.Ranks.{AreRanks-fall}
use Rattle.wq_levels.proofs.OneCircle.{HasCircle-walked}
use Rattle.wq_core.specs.declared.step.Step.{Step}
use Rattle.wq_core.specs.Wiring.{LaneWaits, wiring, lane_of}
use Rattle.wq_core.specs.Played.{queue_order}
use Rattle.wq_core.proofs.LaneCircles.{Circle-map}
use Rattle.wq_core.proofs.Safety.{IsSafe-falls}
use Rattle.wq_deadlock.specs.CircleRun.{flushing_items, IsCircleRun}
use Rattle.wq_deadlock.specs.Verdict.{IsSafeByRanks, IsDeadlock}
use Rattle.wq_deadlock.proofs.CircleRuns.{DeadlocksBy-circle_run}
use Rattle.wq_deadlock.proofs.FewArcs.{LeadsRound-few}
use Rattle.wq_deadlock.proofs.Queueings.{length-queue_order}

module _ (d : Declaration) (a : Assignment) (declaration : IsDeclaration d) (assignment : IsAssignment d.groups a) where
  long : length (lane_graph d a) ≡ a.lanes
  long = length-map-range_with_len (arcs_from d.waits (item_lanes a d.group_of)) 0 a.lanes

  -- ---- items and their lanes

  lanes_long : length (item_lanes a d.group_of) ≡ length d.group_of
  lanes_long = length-map d.group_of (group_lane a)

  pub HasArc-items : (i j : ℕ) → ItemWaits d.waits i j → HasArc (lane_graph d a) (lane_of (wiring d a) i) (lane_of (wiring d a) j)
  HasArc-items i j declares =
      let item : i < length (item_lanes a d.group_of) = omega (arith, waiting-item d declaration i j declares, lanes_long) in
      let target : j < length (item_lanes a d.group_of) = omega (arith, awaited-item d declaration i j declares, lanes_long) in
      (VertexWaits-lane_graph d a declaration assignment (lane_of (wiring d a) i) (lane_of (wiring d a) j)).0 (VertexWaits-items d.waits (item_lanes a d.group_of) i j item target declares)

  module _ (few : a.lanes ≤ 4096) where
    sound : IsGraph (lane_graph d a)
    sound = IsGraph-lane_graph d a declaration assignment few

    -- ---- ranks

    module _ (ranks : List ℕ) (are : AreRanks (lane_graph d a) ranks) where
      pub fall : (i j : ℕ) → ItemWaits d.waits i j → slice_index ranks (lane_of (wiring d a) j) < slice_index ranks (lane_of (wiring d a) i)
      fall i j declares =
          let item : i < length (item_lanes a d.group_of) = omega (arith, waiting-item d declaration i j declares, lanes_long) in
          let lane : lane_of (wiring d a) i < a.lanes = item_lanes-within d.group_of d.groups a declaration.partition.within assignment i 0 item in
          AreRanks-fall (lane_graph d a) ranks sound are (lane_of (wiring d a) i) (lane_of (wiring d a) j) (omega (arith, lane, long)) (HasArc-items i j declares)

      pub IsSafeByRanks-ranks : IsSafeByRanks d a ranks
      IsSafeByRanks-ranks = record {
        assignment = assignment;
        safe = IsSafe-falls (wiring d a) (slice_index ranks) refl fall;
        one_each = are.one_each ∙ long;
        are_ranks = are;
        fall = λ i j declares.
            let item = item_lanes-at a d.group_of i (waiting-item d declaration i j declares) in
            let target = item_lanes-at a d.group_of j (awaited-item d declaration i j declares) in
            subst (λ (p : ℕ). slice_index ranks p < slice_index ranks (item_lane a d.group_of i)) target
            (subst (λ (p : ℕ). slice_index ranks (lane_of (wiring d a) j) < slice_index ranks p) item (fall i j declares));
      }

    -- ---- circles

    pub length-flushing_items : (circle : List WaitArc) → LeadsRound (lane_graph d a) circle
        → length (queue_order (wiring d a) (flushing_items circle)) ≤ 8192
    length-flushing_items circle round =
        let queued = length-queue_order (wiring d a) (flushing_items circle) in
        let size = length-map circle (λ (b : WaitArc). b.src) in
        let short = LeadsRound-few (lane_graph d a) circle round in
        omega (arith, queued, size, short, long, few, declaration.one_list_each, declaration.partition.few_items)

    module _ (circle : List WaitArc) (walked : IsWalkedCircle (lane_graph d a) circle) where
      pub lanes_wait : Circle (LaneWaits (wiring d a))
      lanes_wait =
          Circle-map (HasArc (lane_graph d a)) (LaneWaits (wiring d a)) (λ q. q) (λ p q arc. (VertexWaits-lane_graph d a declaration assignment p q).1 arc) (HasCircle-walked (lane_graph d a) sound circle walked).0

      pub IsDeadlock-walked : (steps : List Step) → IsCircleRun (wiring d a) circle steps → IsDeadlock d a steps
      IsDeadlock-walked steps is_run = record {
        assignment = assignment;
        lanes_wait = lanes_wait;
        circle = circle;
        walked = walked;
        is_run = is_run;
        deadlocks = DeadlocksBy-circle_run d a declaration assignment circle walked steps is_run;
      }
