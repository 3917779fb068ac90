-- What a verdict on workqueues says of groups.
use Rattle.std.proofs.Common.{◌≡◌, ℕ, ◌<◌, ◌≤◌, inl, inr, Bool, true, false, not, List, [], ◌∷◌, length, refl}
use Rattle.std.proofs.Common.{sym, ap, subst, ◌∙◌, arith}
use Rattle.std.specs.Prelude.{◌↔◌, ◌&&◌, slice_get, slice_index, Some, Contains}
use Rattle.std.proofs.lemmas.Bool.{false≢true}
use Rattle.std.proofs.lemmas.Option.{get_or_from_slice_get}
use Rattle.std.proofs.lemmas.List.FromFn.{length-map-range_with_len}
use Rattle.wq_items.specs.Chain.{Circle}
use Rattle.wq_items.specs.Table.{ItemWaits}
use Rattle.wq_items.proofs.Lists.{Contains-here}
use Rattle.wq_groups.specs.Declaration.{Declaration, IsDeclaration, GroupWaits}
use Rattle.wq_groups.specs.Assignment.{Assignment, IsAssignment, item_lanes, group_lane}
use Rattle.wq_groups.proofs.Declarations.{waiting-item, awaited-item, GroupWaits-items}
use Rattle.wq_groups.proofs.Lanes.{item_lanes-at}
use Rattle.wq_graph.specs.declared.arc.WaitArc.{WaitArc}
use Rattle.wq_graph.specs.Graph.{HasArc, IsGraph, arcs_from, lane_graph}
use Rattle.wq_graph.proofs.Graphs.{IsGraph-lane_graph, VertexWaits-lane_graph}
use Rattle.wq_graph.proofs.LeavingOut.{length-without, HasArc-without, IsGraph-without}
use Rattle.wq_levels.proofs.OneCircle.{HasCircle-walked}
use Rattle.wq_levels.proofs.Ranks.{AreRanks-fall, AreRanks-few}
use Rattle.wq_core.specs.Wiring.{RescuedWaits}
use Rattle.wq_core.specs.Workqueues.{Workqueues, wiring_of}
use Rattle.wq_core.specs.Deadlock.{IsSafe, Deadlocks}
use Rattle.wq_core.proofs.LaneCircles.{Circle-map}
use Rattle.wq_deadlock.specs.Judging.{is_on_bare, bare_waits, rescued_graph, AreFirst}
use Rattle.wq_deadlock.proofs.BareLanes.{IsArc-bare_waits}
use Rattle.wq_deadlock.proofs.Renumbered.{not_safe-deadlocks}
use Rattle.wq_repair.specs.Changes.{IsRescued, IsToBeCompared, lane_in}
use Rattle.wq_repair.specs.Joined.{HangsRound, IsStart}
use Rattle.wq_repair.specs.Marks.{IsMarked}
use Rattle.wq_repair.specs.Ready.{IsGraphOfNeeded, AreRanksOfGroups}
use Rattle.wq_repair.specs.Settled.{AreRanksOnLanes}
use Rattle.wq_repair.proofs.Rescuers.{rescued-awaited, waiting-below, awaited-below, Deadlocks-round}
use Rattle.wq_repair.proofs.Rescuers.{LaneWaits-group_waits}
use Rattle.wq_repair.proofs.Starts.{Deadlocks-start_bare, Deadlocks-start_circle}

leads : (src dst : Bool) → (not src && dst) ≡ true → (src ≡ false) × (dst ≡ true)
leads true dst is = absurd (let never : false ≡ true = is in cc)
leads false dst is = (refl, is)

module _ (d : Declaration) (ws : Workqueues) (declaration : IsDeclaration d) (assignment : IsAssignment d.groups ws.assignment) where
  -- arcs between lanes that have a rescuer
  pub RescuedWaits-arc : (p q : ℕ) → HasArc (rescued_graph d ws) p q ↔ RescuedWaits (wiring_of d ws) p q
  RescuedWaits-arc p q =
      let kept = HasArc-without ws.bare (lane_graph d ws.assignment) p q in
      let lanes = VertexWaits-lane_graph d ws.assignment declaration assignment p q in (
        λ arc. let parts = kept.0 arc in (parts.0, parts.1, lanes.1 parts.2),
        λ waits. kept.1 (waits.0, waits.1, lanes.0 waits.2),
      )

  pub group_arc : (g h : ℕ) → GroupWaits d g h → IsRescued ws (lane_in ws g) → IsRescued ws (lane_in ws h) → HasArc (rescued_graph d ws) (lane_in ws g) (lane_in ws h)
  group_arc g h waits rescued also = (RescuedWaits-arc (lane_in ws g) (lane_in ws h)).1 (rescued, also, LaneWaits-group_waits d ws declaration assignment g h waits)

  -- groups that make lanes with rescuers wait
  pub record GroupsWait (p q : ℕ) : Type 0 where
    pub group : ℕ
    pub awaited : ℕ
    pub waits : GroupWaits d group awaited
    pub from : lane_in ws group ≡ p
    pub to : lane_in ws awaited ≡ q
    pub rescued : IsRescued ws p
    pub also : IsRescued ws q

  lane-at : (i q : ℕ) → slice_get (item_lanes ws.assignment d.group_of) i ≡ Some q → i < length d.group_of → lane_in ws (slice_index d.group_of i) ≡ q
  lane-at i q at within = sym (item_lanes-at ws.assignment d.group_of i within) ∙ get_or_from_slice_get (item_lanes ws.assignment d.group_of) i q 0 at

  pub GroupsWait-arc : (p q : ℕ) → HasArc (rescued_graph d ws) p q → GroupsWait p q
  GroupsWait-arc p q arc =
      let parts = (RescuedWaits-arc p q).0 arc in
      let waits = parts.2 in
      record {
        group = slice_index d.group_of waits.item;
        awaited = slice_index d.group_of waits.target;
        waits = GroupWaits-items d declaration waits.item waits.target waits.declares;
        from = lane-at waits.item p waits.of_item (waiting-item d declaration waits.item waits.target waits.declares);
        to = lane-at waits.target q waits.of_target (awaited-item d declaration waits.item waits.target waits.declares);
        rescued = parts.0;
        also = parts.1;
      }

  pub HangsRound-circle : Circle (HasArc (rescued_graph d ws)) → HangsRound d ws
  HangsRound-circle circle = Circle-map (HasArc (rescued_graph d ws)) (RescuedWaits (wiring_of d ws)) (λ q. q) (λ p q arc. (RescuedWaits-arc p q).0 arc) circle

  pub length-rescued_graph : length (rescued_graph d ws) ≡ ws.assignment.lanes
  length-rescued_graph = length-without ws.bare (lane_graph d ws.assignment) ∙ length-map-range_with_len (arcs_from d.waits (item_lanes ws.assignment d.group_of)) 0 ws.assignment.lanes

  pub IsGraph-rescued_graph : ws.assignment.lanes ≤ 4096 → IsGraph (rescued_graph d ws)
  IsGraph-rescued_graph few = IsGraph-without ws.bare (lane_graph d ws.assignment) (IsGraph-lane_graph d ws.assignment declaration assignment few)

  -- a flush that leads to a lane without a rescuer
  pub bare_group_waits : (x : WaitArc) → Contains (bare_waits d ws) x
      → GroupWaits d (slice_index d.group_of x.src) (slice_index d.group_of x.dst) × IsRescued ws (lane_in ws (slice_index d.group_of x.src)) × (¬ IsRescued ws (lane_in ws (slice_index d.group_of x.dst)))
  bare_group_waits x there =
      let (arc, passes) = IsArc-bare_waits d ws declaration assignment x there in
      let waits : ItemWaits d.waits x.src x.dst = (arc.declared.0, arc.declared.1, arc.declared.2, arc.declared.3, arc.declared.4.0) in
      let ends = leads (is_on_bare ws d.group_of x.src) (is_on_bare ws d.group_of x.dst) passes in
      (GroupWaits-items d declaration x.src x.dst waits, ends.0, λ rescued. false≢true (sym rescued ∙ ends.1))

  -- safe workqueues
  module _ (safe : IsSafe (wiring_of d ws)) where
    pub no_circle-safe : ¬ Circle (HasArc (rescued_graph d ws))
    no_circle-safe circle = not_safe-deadlocks (wiring_of d ws) (Deadlocks-round d ws declaration assignment (HangsRound-circle circle)) safe

    pub rescued_awaited-safe : (g h : ℕ) → GroupWaits d g h → IsRescued ws (lane_in ws g) → IsRescued ws (lane_in ws h)
    rescued_awaited-safe g h waits rescued = elim (rescued-awaited d ws declaration assignment g h waits rescued) [
      | inl also ↦ also
      | inr dead ↦ absurd (not_safe-deadlocks (wiring_of d ws) dead safe)
    ]

-- ranks of lanes, by group, of those that need a rescuer and have one
module _ (d : Declaration) (ws : Workqueues) (declaration : IsDeclaration d)
    (assignment : IsAssignment d.groups ws.assignment) (few : ws.assignment.lanes ≤ 4096) (needed : List Bool)
    (graph : List (List WaitArc)) (of : IsGraphOfNeeded d needed graph)
    (rescued : (g : ℕ) → g < d.groups → IsMarked needed g → IsRescued ws (lane_in ws g))
    (ranks : List ℕ) (of_groups : AreRanksOfGroups d ws ranks) where
  lane_is : (g : ℕ) → g < d.groups → lane_in ws g < length (rescued_graph d ws)
  lane_is g is = omega (
    arith,
    assignment.within g 0 (omega (arith, is, assignment.one_each)),
    length-rescued_graph d ws declaration assignment,
  )

  sound : IsGraph (rescued_graph d ws)
  sound = IsGraph-rescued_graph d ws declaration assignment few

  -- they are ranks of those that stay, if these are on the same lanes here
  pub AreRanksOnLanes-by : (old : Assignment) (stays : List Bool)
      → ((g h : ℕ) → IsMarked stays g → IsMarked stays h → group_lane old g ≡ group_lane old h
      → (g < d.groups) × (h < d.groups) × (lane_in ws g ≡ lane_in ws h)) → AreRanksOnLanes graph old stays ranks
  AreRanksOnLanes-by old stays together = record {
    one_each = of_groups.one_each ∙ sym of.long;
    low = λ g lt.
        let is : g < d.groups = omega (arith, lt, of.long) in
        let below = AreRanks-few (rescued_graph d ws) of_groups.of_lanes sound of_groups.are (lane_in ws g) 0
        (omega (arith, lane_is g is, of_groups.are.one_each)) in
        omega (arith, of_groups.exactly g is, below, length-rescued_graph d ws declaration assignment, few);
    fall = λ g h arc.
        let parts = (of.arcs g h).0 arc in
        let g_is = waiting-below d declaration g h parts.2 in
        let h_is = awaited-below d declaration g h parts.2 in
        let leads = group_arc d ws declaration assignment g h parts.2 (rescued g g_is parts.0)
        (rescued h h_is parts.1) in
        let falls = AreRanks-fall (rescued_graph d ws) of_groups.of_lanes sound of_groups.are (lane_in ws g)
        (lane_in ws h) (lane_is g g_is) leads in
        omega (arith, falls, of_groups.exactly g g_is, of_groups.exactly h h_is);
    same = λ g h g_stays h_stays lane.
        let (g_is, h_is, beside) = together g h g_stays h_stays lane in
        of_groups.exactly g g_is ∙ ap (slice_index of_groups.of_lanes) beside ∙ sym (of_groups.exactly h h_is);
  }

module _ (d : Declaration) (old start new : Workqueues) (names : List ℕ) (declaration : IsDeclaration d) (before : IsAssignment d.groups old.assignment)
    (is : IsStart d old names start) (few : start.assignment.lanes ≤ 4096) (compared : IsToBeCompared d old names new) where
  pub Deadlocks-hanging : (waits : List WaitArc) → waits ≡ bare_waits d start → (first : List ℕ) → AreFirst d start waits first → Deadlocks (wiring_of d new)
  Deadlocks-hanging (x ∷ more) all first are =
      let bare = bare_group_waits d start declaration is.compared.assignment x (subst (λ (l : List WaitArc). Contains l x) all (Contains-here x more)) in
      Deadlocks-start_bare d old start new names declaration before is compared (slice_index d.group_of x.src) (slice_index d.group_of x.dst) bare.0 bare.1 bare.2
  Deadlocks-hanging [] all first (circle, walked, same) =
      let graph = rescued_graph d start in
      let has = HasCircle-walked graph (IsGraph-rescued_graph d start declaration is.compared.assignment few) circle walked in
      Deadlocks-start_circle d old start new names declaration before is compared (HangsRound-circle d start declaration is.compared.assignment has.0)
