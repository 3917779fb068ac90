-- The wait graph of the lanes that have a rescuer, and what it says of the machine.
use Rattle.std.proofs.Common.{◌≡◌, ℕ, ◌<◌, inl, inr, List, [], ◌∷◌, length, ◌∙◌}
use Rattle.std.specs.List.{All}
use Rattle.std.proofs.lemmas.List.Elements.{All-cons, All-nil}
use Rattle.std.proofs.lemmas.List.FromFn.{length-map-range_with_len}
use Rattle.wq_items.specs.Chain.{IsChain, Circle}
use Rattle.wq_items.specs.Table.{ItemWaits}
use Rattle.wq_groups.specs.Declaration.{Declaration, IsDeclaration}
use Rattle.wq_groups.specs.Assignment.{IsAssignmentOf, item_lanes}
use Rattle.wq_graph.specs.declared.arc.WaitArc.{WaitArc}
use Rattle.wq_graph.specs.Graph.{IsGraph, HasArc, arcs_from, lane_graph}
use Rattle.wq_graph.proofs.Graphs.{IsGraph-lane_graph, VertexWaits-lane_graph}
use Rattle.wq_graph.proofs.LeavingOut.{length-without, HasArc-without, IsGraph-without}
use Rattle.wq_levels.specs.Ranks.{AreRanks}
use Rattle.wq_levels.specs.Walks.{IsWalkedCircle}
use Rattle.wq_levels.proofs.Graphs.{HasArc-below}
use Rattle.wq_levels.proofs.OneCircle.{HasCircle-walked}
use Rattle.wq_core.specs.Wiring.{HasRescuer, RescuedWaits, lane_of}
use Rattle.wq_core.specs.Workqueues.{Workqueues, wiring_of}
use Rattle.wq_core.specs.Deadlock.{IsSafe}
use Rattle.wq_core.proofs.BareWaits.{Deadlocks-bare}
use Rattle.wq_core.proofs.CircleKnots.{Deadlocks-rescued_circle}
use Rattle.wq_core.proofs.Wirings.{cases_rescuer}
use Rattle.wq_deadlock.specs.Judging.{bare_waits, rescued_graph}
use Rattle.wq_deadlock.proofs.BareLanes.{IsWiring-workqueues, AreSafe-ranks}
use Rattle.wq_deadlock.proofs.Renumbered.{not_safe-deadlocks}
use Rattle.wq_deadlock.proofs.Verdicts.{HasArc-items}
use Rattle.wq_plan.proofs.Relations.{HasCircle-implied}

-- the vertices of a chain are vertices of the graph
pub chain-within : (graph : List (List WaitArc)) → IsGraph graph → (q : ℕ) (others : List ℕ) → q < length graph
    → IsChain (HasArc graph) (q ∷ others) → All (λ v. v < length graph) (q ∷ others)
chain-within graph sound q [] within chain =
    All-cons (λ v. v < length graph) q [] within (All-nil (λ v. v < length graph))
chain-within graph sound q (w ∷ ws) within chain =
    All-cons (λ v. v < length graph) q (w ∷ ws) within
    (chain-within graph sound w ws (HasArc-below graph sound q w chain.0) chain.1)

module _ (d : Declaration) (ws : Workqueues) (declaration : IsDeclaration d)
    (is : IsAssignmentOf d.groups ws.assignment) where
  pub rescued-length : length (rescued_graph d ws) ≡ ws.assignment.lanes
  rescued-length =
      length-without ws.bare (lane_graph d ws.assignment)
      ∙ length-map-range_with_len (arcs_from d.waits (item_lanes ws.assignment d.group_of)) 0 ws.assignment.lanes

  pub rescued-sound : IsGraph (rescued_graph d ws)
  rescued-sound =
      IsGraph-without ws.bare (lane_graph d ws.assignment)
      (IsGraph-lane_graph d ws.assignment declaration is.assignment is.few)

  pub RescuedWaits-arc : (p q : ℕ) → HasArc (rescued_graph d ws) p q → RescuedWaits (wiring_of d ws) p q
  RescuedWaits-arc p q arc =
      let was = (HasArc-without ws.bare (lane_graph d ws.assignment) p q).0 arc in
      (was.0, was.1, (VertexWaits-lane_graph d ws.assignment declaration is.assignment p q).1 was.2)

  pub rescued-arc : (i j : ℕ) → ItemWaits d.waits i j → HasRescuer (wiring_of d ws) (lane_of (wiring_of d ws) i)
      → HasRescuer (wiring_of d ws) (lane_of (wiring_of d ws) j)
      → HasArc (rescued_graph d ws) (lane_of (wiring_of d ws) i) (lane_of (wiring_of d ws) j)
  rescued-arc i j waits from to =
      (HasArc-without ws.bare (lane_graph d ws.assignment) (lane_of (wiring_of d ws) i)
      (lane_of (wiring_of d ws) j)).1 (from, to, HasArc-items d ws.assignment declaration is.assignment i j waits)

  -- ---- a circle

  pub Circle-walked : (circle : List WaitArc) → IsWalkedCircle (rescued_graph d ws) circle
      → Circle (RescuedWaits (wiring_of d ws))
  Circle-walked circle walked =
      (HasCircle-implied (HasArc (rescued_graph d ws)) (RescuedWaits (wiring_of d ws)) RescuedWaits-arc
      (length (rescued_graph d ws)) (HasCircle-walked (rescued_graph d ws) rescued-sound circle walked)).0

  pub not_safe-circle : Circle (RescuedWaits (wiring_of d ws)) → ¬ IsSafe (wiring_of d ws)
  not_safe-circle circle =
      not_safe-deadlocks (wiring_of d ws)
      (Deadlocks-rescued_circle (wiring_of d ws) (IsWiring-workqueues d ws declaration is.assignment) circle)

  -- ---- ranks, where no flush leads to no rescuer

  module _ (none : bare_waits d ws ≡ []) (ranks : List ℕ) (ranked : AreRanks (rescued_graph d ws) ranks) where
    pub safe-ranks : IsSafe (wiring_of d ws)
    safe-ranks = (AreSafe-ranks d ws declaration is.assignment is.few none ranks ranked).safe

    -- what waits on a lane with a rescuer waits for items on such lanes alone
    pub awaited-rescuer : (i j : ℕ) → ItemWaits d.waits i j
        → HasRescuer (wiring_of d ws) (lane_of (wiring_of d ws) i)
        → HasRescuer (wiring_of d ws) (lane_of (wiring_of d ws) j)
    awaited-rescuer i j waits from = elim (cases_rescuer (wiring_of d ws) (lane_of (wiring_of d ws) j)) [
      | inl to ↦ to
      | inr bare ↦
          absurd (not_safe-deadlocks (wiring_of d ws)
          (Deadlocks-bare (wiring_of d ws) i j (IsWiring-workqueues d ws declaration is.assignment) waits from bare)
          safe-ranks)
    ]
