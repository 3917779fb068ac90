-- What is found around fixed workqueues can be printed: few arcs, each between items.
use Rattle.std.proofs.Common.{◌≡◌, ℕ, ◌<◌, ◌≤◌, inl, inr, List, [], ◌∷◌, length, map, get_or, refl, sym, ap}
use Rattle.std.proofs.Common.{subst, ◌∙◌, arith}
use Rattle.std.specs.Prelude.{Contains, slice_index}
use Rattle.std.specs.List.{All, AllByRecursion}
use Rattle.std.proofs.lemmas.Bool.{cases_lt}
use Rattle.std.proofs.lemmas.List.{get_or_past, length-map}
use Rattle.std.proofs.lemmas.List.Elements.{All-contains, All-from_recursion, All-map}
use Rattle.std.proofs.lemmas.List.FromFn.{length-map-range_with_len}
use Rattle.wq_items.specs.Chain.{Circle, HasCircle, IsChain}
use Rattle.wq_items.specs.Table.{ItemWaits}
use Rattle.wq_items.proofs.Circles.{circle_from_length, each_below}
use Rattle.wq_items.proofs.Tables.{ItemWaits-below}
use Rattle.wq_groups.specs.Assignment.{IsAssignmentOf, item_lanes}
use Rattle.wq_groups.specs.Declaration.{Declaration, IsDeclaration}
use Rattle.wq_groups.specs.DeclaredGroups.{declared_waits, Declared, IsSound}
use Rattle.wq_graph.specs.declared.arc.WaitArc.{WaitArc}
use Rattle.wq_graph.specs.Graph.{HasArc, IsArc, IsGraph, arcs_at, arcs_from, lane_graph}
use Rattle.wq_graph.proofs.Arcs.{src-below}
use Rattle.wq_graph.proofs.Graphs.{AreArcsFrom-lane_graph, IsGraph-lane_graph, VertexWaits-lane_graph}
use Rattle.wq_graph.proofs.LeavingOut.{Contains-without, HasArc-without, IsGraph-without, length-without}
use Rattle.wq_levels.proofs.Graphs.{HasArc-below}
use Rattle.wq_levels.proofs.OneCircle.{IsWalkedCircle-few}
use Rattle.wq_levels.proofs.Walks.{LeadsRound-walked}
use Rattle.wq_core.specs.Deadlock.{IsSafe}
use Rattle.wq_core.specs.Wiring.{RescuedWaits, wiring}
use Rattle.wq_core.specs.Workqueues.{Workqueues, wiring_of}
use Rattle.wq_core.proofs.CircleKnots.{Deadlocks-rescued_circle}
use Rattle.wq_core.proofs.LaneCircles.{Circle-map}
use Rattle.wq_core.proofs.Wirings.{IsWiring-wiring, IsWiring-with_bare}
use Rattle.wq_deadlock.specs.Judging.{bare_waits}
use Rattle.wq_deadlock.proofs.BareLanes.{IsArc-bare_waits}
use Rattle.wq_deadlock.proofs.Renumbered.{not_safe-deadlocks}
use Rattle.wq_fixed.specs.Fixed.{AllDeadlock, Fixed, IsFixed, IsLeastAround, fixed_lanes, start}
use Rattle.wq_fixed.proofs.Kept.{lane_now, waits_here}
use Rattle.wq_fixed.proofs.StartKeeps.{IsAssignmentOf-start, Keeps-start}
use Rattle.wq_around.specs.Around.{IsChainOf, IsCircledAround, IsHeldByNone, IsPlannedAround, new_lanes}
use Rattle.wq_around.specs.Heights.{start_graph}
use Rattle.wq_around.specs.Down.{LeadsDown}
use Rattle.wq_commands.specs.Answer.{ends_of}
use Rattle.wq_commands.proofs.AnswerLemmas.{ArePrintable, IsDeclaration-sound, JoinsItems}

-- ---- arcs

-- the arc of a flush joins items
joins-arc : (s : Declared) (a : WaitArc) (vertex_of : List ℕ) → IsSound s → IsArc s.table.waits vertex_of a
    → JoinsItems s.table (ends_of a)
joins-arc s a vertex_of sound arc =
    let d = arc.declared in
    let waits : ItemWaits s.table.waits a.src a.dst = (d.0, d.1, d.2, d.3, d.4.0) in
    let source : a.src < length s.table.waits = src-below s.table.waits vertex_of a arc in (
      omega (arith, source, sound.table.one_list_each),
      ItemWaits-below (length s.table.names) s.table.waits sound.table.targets_are_items a.src a.dst waits,
    )

-- few arcs that join items
printable : (s : Declared) (arcs : List WaitArc) (ends : List (ℕ × ℕ)) → length arcs ≤ 4096
    → All (λ (a : WaitArc). JoinsItems s.table (ends_of a)) arcs → ends ≡ map ends_of arcs → ArePrintable s.table ends
printable s arcs ends few join is = record {
  few = omega (arith, few, ap length is, length-map arcs ends_of);
  items = subst (All (JoinsItems s.table)) (sym is) (All-map (JoinsItems s.table) ends_of arcs join);
}

module _ (s : Declared) (sound : IsSound s) (f : Fixed) (fixed : IsFixed s.partition.groups f) where
  abbrev d : Declaration
  d = declared_waits s

  abbrev graph : List (List WaitArc)
  graph = start_graph d f

  declaration : IsDeclaration d
  declaration = IsDeclaration-sound s sound

  pub assigned-start : IsAssignmentOf s.partition.groups (start f).assignment
  assigned-start = IsAssignmentOf-start s.partition.groups f fixed

  -- the start hangs if all workqueues that keep the fixed ones do
  pub unsafe-start : AllDeadlock d f → ¬ IsSafe (wiring_of d (start f))
  unsafe-start all =
      not_safe-deadlocks (wiring_of d (start f))
      (all (start f) assigned-start.assignment (Keeps-start s.partition.groups f fixed))

  length-graph : length graph ≡ (start f).assignment.lanes
  length-graph =
      length-without f.bare (lane_graph d (start f).assignment)
      ∙ length-map-range_with_len (arcs_from d.waits (item_lanes (start f).assignment d.group_of)) 0
      (start f).assignment.lanes

  is_graph : IsGraph graph
  is_graph = IsGraph-without f.bare (lane_graph d (start f).assignment)
      (IsGraph-lane_graph d (start f).assignment declaration assigned-start.assignment assigned-start.few)

  -- an arc of the start is that of a flush
  joins-start : (v : ℕ) (a : WaitArc) → Contains (arcs_at graph v) a → JoinsItems s.table (ends_of a)
  joins-start v a there =
      let lanes : List ℕ = item_lanes (start f).assignment d.group_of in
      let all = AreArcsFrom-lane_graph d (start f).assignment declaration assigned-start.assignment v in
      let kept = Contains-without f.bare (lane_graph d (start f).assignment) v a there in
      joins-arc s a lanes sound
      (All-contains (λ (b : WaitArc). IsArc d.waits lanes b × (slice_index lanes b.src ≡ v))
      (arcs_at (lane_graph d (start f).assignment) v) a all.declared kept.2).0

  -- ---- a circle, and a flush to no rescuer

  pub ArePrintable-circled : (circle : List WaitArc) (ends : List (ℕ × ℕ)) → IsCircledAround d f circle
      → ends ≡ map ends_of circle → ArePrintable s.table ends
  ArePrintable-circled circle ends circled is =
      let round = LeadsRound-walked graph circle circled.walked in
      let few : length circle ≤ length graph = IsWalkedCircle-few graph circle circled.walked in
      printable s circle ends (omega (arith, few, length-graph, assigned-start.few))
      (λ k e within. joins-start (slice_index round.left k) (get_or circle k e) (round.leaves k e within)) is

  pub joins-held : (arc : WaitArc) → IsHeldByNone d f arc → JoinsItems s.table (ends_of arc)
  joins-held arc held =
      let there : Contains (bare_waits d (start f)) arc =
      subst (λ (l : List WaitArc). Contains l arc) (sym held.first) (0, omega arith, refl) in
      joins-arc s arc d.group_of sound
      (IsArc-bare_waits d (start f) declaration assigned-start.assignment arc there).0

  -- ---- the chain of a plan

  module _ (ws : Workqueues) (least : IsLeastAround d f ws) where
    -- what waits in a circle in the start does so on the workqueues of the plan
    no_circle : ¬ HasCircle (HasArc graph) (length graph)
    no_circle (circle, below) =
        let waits : Circle (RescuedWaits (wiring_of d (start f))) =
        Circle-map (HasArc graph) (RescuedWaits (wiring_of d (start f))) (λ q. q) (λ p q arc.
        let kept = (HasArc-without f.bare (lane_graph d (start f).assignment) p q).0 arc in (
          kept.0,
          kept.1,
          (VertexWaits-lane_graph d (start f).assignment declaration assigned-start.assignment p q).1 kept.2,
        )) circle in
        let here : Circle (RescuedWaits (wiring_of d ws)) =
        Circle-map (RescuedWaits (wiring_of d (start f))) (RescuedWaits (wiring_of d ws))
        (lane_now d f ws declaration fixed least.assignment least.keeps)
        (waits_here d f ws declaration fixed least.assignment least.keeps) waits in
        not_safe-deadlocks (wiring_of d ws)
        (Deadlocks-rescued_circle (wiring_of d ws)
        (IsWiring-with_bare (wiring d ws.assignment) ws.bare
        (IsWiring-wiring d ws.assignment declaration least.assignment))
        here) least.safe

    module _ (heights : List ℕ) where
      chain-down : (q : ℕ) (arcs : List WaitArc) → LeadsDown graph (fixed_lanes f) heights q arcs
          → IsChain (HasArc graph) (q ∷ map (λ (a : WaitArc). a.head) arcs)
      chain-down q [] down = tt
      chain-down q (arc ∷ arcs) (there, falls, some, down) =
          ((there.0, arc, there.1, there.2, refl), chain-down arc.head arcs down)

      joins-down : (q : ℕ) (arcs : List WaitArc) → LeadsDown graph (fixed_lanes f) heights q arcs
          → AllByRecursion (λ (a : WaitArc). JoinsItems s.table (ends_of a)) arcs
      joins-down q [] down = tt
      joins-down q (arc ∷ arcs) (there, falls, some, down) =
          (joins-start q arc there, joins-down arc.head arcs down)

      pub few-down : (q : ℕ) (arcs : List WaitArc) → LeadsDown graph (fixed_lanes f) heights q arcs
          → length arcs ≤ 4095
      few-down q [] down = omega arith
      few-down q (arc ∷ arcs) down =
          let n = length graph in
          let lanes : List ℕ = q ∷ map (λ (a : WaitArc). a.head) (arc ∷ arcs) in
          let inside : q < n = elim (cases_lt q n) [
            | inl inside ↦ inside
            | inr past ↦
                let none : arcs_at graph q ≡ [] = get_or_past graph q [] past in
                absurd (omega (arith, down.0.1, ap (λ (l : List WaitArc). length l) none))
          ] in
          let chain = chain-down q (arc ∷ arcs) down in
          let below : All (λ v. v < n) lanes =
          All-from_recursion (λ v. v < n) lanes
          (each_below (HasArc graph) n q (map (λ (a : WaitArc). a.head) (arc ∷ arcs)) (HasArc-below graph is_graph)
          inside chain) in
          elim (cases_lt n (length lanes)) [
            | inl long ↦ absurd (no_circle (circle_from_length (HasArc graph) n lanes chain below long))
            | inr few ↦
                omega (
                  arith,
                  few,
                  length-map (arc ∷ arcs) (λ (a : WaitArc). a.head),
                  length-graph,
                  assigned-start.few,
                )
          ]

    printable_chain : (chain : List WaitArc) (ends : List (ℕ × ℕ)) → IsChainOf d f (new_lanes f ws) chain
        → ends ≡ map ends_of chain → ArePrintable s.table ends
    printable_chain chain ends (inl (none, empty)) is =
        printable s chain ends (omega (arith, ap (λ (l : List WaitArc). length l) empty))
        (subst (All (λ (a : WaitArc). JoinsItems s.table (ends_of a))) (sym empty)
        (λ k e within. absurd (omega (arith, within)))) is
    printable_chain chain ends (inr (heights, are, best)) is =
        let down = best.down.down in
        printable s chain ends (omega (arith, few-down heights best.down.first chain down))
        (All-from_recursion (λ (a : WaitArc). JoinsItems s.table (ends_of a)) chain
        (joins-down heights best.down.first chain down)) is

  pub ArePrintable-planned : (ws : Workqueues) (order : List ℕ) (chain : List WaitArc) (ends : List (ℕ × ℕ))
      → IsPlannedAround d f ws order chain → ends ≡ map ends_of chain → ArePrintable s.table ends
  ArePrintable-planned ws order chain ends planned is = printable_chain ws planned.least chain ends planned.chain is
