-- What holds of workqueues of which some have no rescuer: which items hold up others for good, and when no run ends stuck.
use Rattle.std.proofs.Common.{◌≡◌, ℕ, ◌<◌, ◌≤◌, Bool, true, false, not, List, [], ◌∷◌, ◌++◌, length, get_or, refl, sym, ap, subst, ◌∙◌, arith, inl, inr}
use Rattle.std.specs.Prelude.{Contains, filter, slice_index, ◌&&◌, Result, Ok, Err, IfErr, OnErr}
use Rattle.std.specs.List.{All}
use Rattle.std.proofs.lemmas.Bool.{cases_Bool, false≢true}
use Rattle.std.proofs.lemmas.List.{length-map}
use Rattle.std.proofs.lemmas.List.Elements.{All-contains, All-filter, filter_passes}
use Rattle.std.proofs.lemmas.List.FromFn.{length-map-range_with_len}
use Rattle.wq_items.specs.Table.{ItemWaits}
use Rattle.wq_items.proofs.Lists.{Contains-here, Contains-filtered}
use Rattle.wq_groups.specs.Declaration.{Declaration, IsDeclaration}
use Rattle.wq_groups.specs.Assignment.{Assignment, IsAssignment, group_lane, item_lanes}
use Rattle.wq_groups.specs.DeclaredGroups.{declared_waits}
use Rattle.wq_groups.proofs.Declarations.{IsDeclaration-of, waiting-item, awaited-item}
use Rattle.wq_groups.proofs.Lanes.{item_lanes-at, item_lanes-within}
use Rattle.wq_graph.specs.declared.arc.WaitArc.{WaitArc}
use Rattle.wq_graph.specs.Graph.{arc_of, arcs_by_place, arcs_from, lane_graph, IsArc}
use Rattle.wq_graph.proofs.Graphs.{IsArc-by_place, Contains-by_place, IsGraph-lane_graph}
use Rattle.wq_graph.proofs.LeavingOut.{length-without, HasArc-without, IsGraph-without}
use Rattle.wq_levels.specs.Ranks.{AreRanks}
use Rattle.wq_levels.specs.Walks.{IsWalkedCircle}
use Rattle.wq_levels.proofs.OneCircle.{IsWalkedCircle-few}
use Rattle.wq_levels.proofs.Ranks.{AreRanks-fall}
use Rattle.wq_levels.proofs.Walks.{LeadsRound-walked}
use Rattle.wq_core.specs.declared.step.Step.{Step}
use Rattle.wq_core.specs.Wiring.{Wiring, IsWiring, HasRescuer, wiring, lane_of}
use Rattle.wq_core.specs.Workqueues.{Workqueues, wiring_of}
use Rattle.wq_core.specs.Assigned.{Assigned, IsAssigned}
use Rattle.wq_core.specs.Deadlock.{Deadlocks, DeadlocksBy}
use Rattle.wq_core.specs.Knot.{IsKnot}
use Rattle.wq_core.specs.Played.{queue_order}
use Rattle.wq_core.specs.Runs.{end_of}
use Rattle.wq_core.proofs.BareWaits.{IsKnot-bare}
use Rattle.wq_core.proofs.KnotRuns.{Deadlocks-knot, DeadlocksBy-knot, IsRun-queue_order}
use Rattle.wq_core.proofs.Playing.{IsPlayedFrom-exists}
use Rattle.wq_core.proofs.Sound.{IsSoundState-end_of}
use Rattle.wq_core.proofs.Safety.{IsSafe-rescued}
use Rattle.wq_core.proofs.Wirings.{IsWiring-wiring, IsWiring-with_bare, lanes-some}
use Rattle.wq_deadlock.specs.CircleRun.{IsRunOf}
use Rattle.wq_deadlock.specs.Judging.{is_on_bare, leads_to_bare, bare_waits, rescued_graph, AreFirst, IsHang, AreSafe}
use Rattle.wq_deadlock.proofs.CircleKnots.{IsKnot-flushing_items}
use Rattle.wq_deadlock.proofs.Verdicts.{HasArc-items}

-- what is declared is a declaration
pub IsDeclaration-assigned : (a : Assigned) → IsAssigned a → IsDeclaration (declared_waits a.declared)
IsDeclaration-assigned a is =
    IsDeclaration-of a.declared.table a.declared.partition is.declared.table is.declared.partition
    is.declared.one_group_each

leads : (src dst : Bool) → (not src && dst) ≡ true → (src ≡ false) × (dst ≡ true)
leads true dst is = absurd (let never : false ≡ true = is in cc)
leads false dst is = (refl, is)

-- where lanes wait in a circle, there is a lane
pub some-lanes : (d : Declaration) (ws : Workqueues) (circle : List WaitArc) → IsWalkedCircle (rescued_graph d ws) circle → 0 < ws.assignment.lanes
some-lanes d ws circle walked =
    let some : 0 < length (rescued_graph d ws) = omega (arith, walked.least.remains.0) in
    omega (arith, some, length-without ws.bare (lane_graph d ws.assignment), length-map-range_with_len (arcs_from d.waits (item_lanes ws.assignment d.group_of)) 0 ws.assignment.lanes)

-- each arc leads from an item to an item
pub items_of_arcs : (d : Declaration) → IsDeclaration d
    → All (λ (a : WaitArc). a.src < length d.group_of) (arcs_by_place d.waits d.group_of) × All (λ (a : WaitArc). a.dst < length d.group_of) (arcs_by_place d.waits d.group_of)
items_of_arcs d declaration = (
  λ k e within. waiting-item d declaration (get_or (arcs_by_place d.waits d.group_of) k e).src (get_or (arcs_by_place d.waits d.group_of) k e).dst (waits k e within),
  λ k e within. awaited-item d declaration (get_or (arcs_by_place d.waits d.group_of) k e).src (get_or (arcs_by_place d.waits d.group_of) k e).dst (waits k e within),
)
  where
    waits : (k : ℕ) (e : WaitArc) → k < length (arcs_by_place d.waits d.group_of)
        → ItemWaits d.waits (get_or (arcs_by_place d.waits d.group_of) k e).src (get_or (arcs_by_place d.waits d.group_of) k e).dst
    waits k e within =
        let is = (IsArc-by_place d.waits d.group_of declaration.places_are_numbered k e within).declared in
        (is.0, is.1, is.2, is.3, is.4.0)

-- where an item flushes another, there is a lane
pub lanes-arcs : (d : Declaration) (a : Assignment) → IsDeclaration d → IsAssignment d.groups a → 0 < length (arcs_by_place d.waits d.group_of) → 0 < a.lanes
lanes-arcs d a declaration assignment some =
    let first : WaitArc = record { src = 0; dst = 0; head = 0; place = 0 } in
    let item = (items_of_arcs d declaration).0 0 first some in
    lanes-some d.group_of d.groups a declaration.partition.within assignment (omega (arith, item))

-- an error comes only where what it says holds, and what follows from that
pub OnErr-some : {V E : Type 0} (r : Result V E) (n : ℕ) (P : Type 0) → IfErr r (λ _. 0 < n) → ((0 < n) → P) → OnErr r P
OnErr-some (Ok v) n P some then = tt
OnErr-some (Err e) n P some then = then some

-- items that hold one another up have a run
pub IsRunOf-exists : (w : Wiring) (first : List ℕ) → IsWiring w → IsKnot w first → (steps : List Step) × IsRunOf w first steps
IsRunOf-exists w first wiring knot =
    let start = queue_order w first in
    let played = IsPlayedFrom-exists w (end_of w start) (IsSoundState-end_of w start (IsRun-queue_order w first wiring knot)) in
    (start ++ played.0, record { played = played.0; is_played = played.1; all = refl })

module _ (d : Declaration) (ws : Workqueues) (declaration : IsDeclaration d) (assignment : IsAssignment d.groups ws.assignment) where
  abbrev w : Wiring
  w = wiring_of d ws

  pub IsWiring-workqueues : IsWiring w
  IsWiring-workqueues = IsWiring-with_bare (wiring d ws.assignment) ws.bare (IsWiring-wiring d ws.assignment declaration assignment)

  -- whether the lane of an item is bare
  on_bare : (i : ℕ) → i < length d.group_of → get_or ws.bare (lane_of w i) false ≡ is_on_bare ws d.group_of i
  on_bare i within = ap (λ (q : ℕ). get_or ws.bare q false) (item_lanes-at ws.assignment d.group_of i within)

  -- ---- flushes that lead to a bare lane

  pub IsArc-bare_waits : (x : WaitArc) → Contains (bare_waits d ws) x → IsArc d.waits d.group_of x × (leads_to_bare ws d.group_of x ≡ true)
  IsArc-bare_waits x there =
      let p : WaitArc → Bool = leads_to_bare ws d.group_of in
      let all : List WaitArc = arcs_by_place d.waits d.group_of in
      let arcs : All (IsArc d.waits d.group_of) all = IsArc-by_place d.waits d.group_of declaration.places_are_numbered in (
        All-contains (IsArc d.waits d.group_of) (filter p all) x (All-filter p (IsArc d.waits d.group_of) all arcs) there,
        All-contains (λ (y : WaitArc). p y ≡ true) (filter p all) x (filter_passes p all) there,
      )

  waits_for_bare : (x : WaitArc) → Contains (bare_waits d ws) x → ItemWaits d.waits x.src x.dst × HasRescuer w (lane_of w x.src) × (¬ HasRescuer w (lane_of w x.dst))
  waits_for_bare x there =
      let (arc, passes) = IsArc-bare_waits x there in
      let waits : ItemWaits d.waits x.src x.dst = (arc.declared.0, arc.declared.1, arc.declared.2, arc.declared.3, arc.declared.4.0) in
      let ends = leads (is_on_bare ws d.group_of x.src) (is_on_bare ws d.group_of x.dst) passes in
      let src = on_bare x.src (waiting-item d declaration x.src x.dst waits) in
      let dst = on_bare x.dst (awaited-item d declaration x.src x.dst waits) in
      (waits, src ∙ ends.0, λ rescuer. false≢true (sym rescuer ∙ dst ∙ ends.1))

  -- if there is none, an item on a lane with a rescuer waits for items on such lanes alone
  awaited-rescued : bare_waits d ws ≡ [] → (i j : ℕ) → ItemWaits d.waits i j → HasRescuer w (lane_of w i) → HasRescuer w (lane_of w j)
  awaited-rescued none i j waits rescuer = elim (cases_Bool (is_on_bare ws d.group_of j)) [
    | inl bare ↦ absurd (
        let t = waits.1 in
        let x : WaitArc = arc_of d.group_of i t in
        let arc : IsArc d.waits d.group_of x = record { declared = (waits.0, t, waits.2, waits.3, (refl, refl)); head = refl } in
        let src : is_on_bare ws d.group_of i ≡ false = sym (on_bare i (waiting-item d declaration i j waits)) ∙ rescuer in
        let dst : is_on_bare ws d.group_of t.item ≡ true = ap (is_on_bare ws d.group_of) waits.4 ∙ bare in
        let passes : leads_to_bare ws d.group_of x ≡ true = ap (λ (b : Bool). not b && is_on_bare ws d.group_of t.item) src ∙ dst in
        let there : Contains (bare_waits d ws) x = Contains-filtered (leads_to_bare ws d.group_of) (arcs_by_place d.waits d.group_of) x passes (Contains-by_place d.waits d.group_of declaration.places_are_numbered x arc) in
        omega (arith, there.1, ap length none)
        )
    | inr rescued ↦ on_bare j (awaited-item d declaration i j waits) ∙ rescued
  ]

  -- ---- items that hold up others for good

  pub IsKnot-first : (waits : List WaitArc) → waits ≡ bare_waits d ws → (first : List ℕ) → AreFirst d ws waits first → IsKnot w first
  IsKnot-first (x ∷ more) all first is =
      let bare = waits_for_bare x (subst (λ (l : List WaitArc). Contains l x) all (Contains-here x more)) in
      subst (IsKnot w) (sym is) (IsKnot-bare w x.src x.dst bare.0 bare.1 bare.2)
  IsKnot-first [] all first (circle, walked, is) =
      subst (IsKnot w) (sym is) (IsKnot-flushing_items d ws.assignment ws.bare declaration assignment circle (LeadsRound-walked (rescued_graph d ws) circle walked))

  long : length (rescued_graph d ws) ≡ ws.assignment.lanes
  long = length-without ws.bare (lane_graph d ws.assignment) ∙ length-map-range_with_len (arcs_from d.waits (item_lanes ws.assignment d.group_of)) 0 ws.assignment.lanes

  pub few-first : ws.assignment.lanes ≤ 4096 → (waits : List WaitArc) (first : List ℕ) → AreFirst d ws waits first → length first ≤ 4096
  few-first few (x ∷ more) first is = omega (arith, ap length is)
  few-first few [] first (circle, walked, is) = omega (arith, ap length is, length-map circle (λ (b : WaitArc). b.src), IsWalkedCircle-few (rescued_graph d ws) circle walked, long, few)

  -- where there are such items, there is a lane
  pub lanes-first : (first : List ℕ) → IsKnot w first → 0 < ws.assignment.lanes
  lanes-first first knot =
      let waits = knot.held 0 0 knot.some in
      let item : get_or first 0 0 < length d.group_of = waiting-item d declaration (get_or first 0 0) waits.1.item (waits.0, waits.1, waits.2, waits.3, refl) in
      lanes-some d.group_of d.groups ws.assignment declaration.partition.within assignment (omega (arith, item))

  pub IsHang-run : (first : List ℕ) (steps : List Step) → AreFirst d ws (bare_waits d ws) first → IsRunOf w first steps → IsHang d ws steps
  IsHang-run first steps are run = record {
    assignment = assignment;
    first = first;
    are_first = are;
    is_run = run;
    deadlocks = subst (λ (all : List Step). DeadlocksBy w all) (sym run.all) (DeadlocksBy-knot w first run.played IsWiring-workqueues (IsKnot-first (bare_waits d ws) refl first are) run.is_played);
  }

  pub Deadlocks-first : (first : List ℕ) → AreFirst d ws (bare_waits d ws) first → Deadlocks w
  Deadlocks-first first are = Deadlocks-knot w first IsWiring-workqueues (IsKnot-first (bare_waits d ws) refl first are)

  pub some-first : (first : List ℕ) → AreFirst d ws (bare_waits d ws) first → 0 < ws.assignment.lanes
  some-first first are = lanes-first first (IsKnot-first (bare_waits d ws) refl first are)

  -- a flush that leads to a workqueue without a rescuer suffices
  pub Deadlocks-bare : (waits : List WaitArc) → waits ≡ bare_waits d ws → 0 < length waits → Deadlocks w
  Deadlocks-bare [] all some = absurd (omega (arith, some))
  Deadlocks-bare (x ∷ more) all some =
      Deadlocks-first (x.src ∷ []) (subst (λ (l : List WaitArc). AreFirst d ws l (x.src ∷ [])) all refl)

  pub some-bare : (waits : List WaitArc) → waits ≡ bare_waits d ws → 0 < length waits → 0 < ws.assignment.lanes
  some-bare [] all some = absurd (omega (arith, some))
  some-bare (x ∷ more) all some =
      some-first (x.src ∷ []) (subst (λ (l : List WaitArc). AreFirst d ws l (x.src ∷ [])) all refl)

  -- ---- safe workqueues

  pub AreSafe-ranks : ws.assignment.lanes ≤ 4096 → bare_waits d ws ≡ [] → (ranks : List ℕ) → AreRanks (rescued_graph d ws) ranks → AreSafe d ws
  AreSafe-ranks few none ranks are = record {
    assignment = assignment;
    safe = IsSafe-rescued w (slice_index ranks) (λ i j waits rescuer.
        let target = awaited-rescued none i j waits rescuer in
        let item : i < length (item_lanes ws.assignment d.group_of) = omega (arith, waiting-item d declaration i j waits, length-map d.group_of (group_lane ws.assignment)) in
        let within : lane_of w i < ws.assignment.lanes = item_lanes-within d.group_of d.groups ws.assignment declaration.partition.within assignment i 0 item in
        let arc = (HasArc-without ws.bare (lane_graph d ws.assignment) (lane_of w i) (lane_of w j)).1 (rescuer, target, HasArc-items d ws.assignment declaration assignment i j waits) in
        let sound = IsGraph-without ws.bare (lane_graph d ws.assignment) (IsGraph-lane_graph d ws.assignment declaration assignment few) in
        (target, AreRanks-fall (rescued_graph d ws) ranks sound are (lane_of w i) (lane_of w j) (omega (arith, within, long)) arc));
  }
