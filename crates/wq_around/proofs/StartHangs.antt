-- A start that hangs: then all workqueues that keep the fixed ones deadlock.
use Rattle.std.proofs.Common.{◌≡◌, ℕ, Bool, true, false, not, List, ◌∷◌, get_or, refl, sym, ap, subst, ◌∙◌}
use Rattle.std.specs.Prelude.{Contains, ◌&&◌}
use Rattle.std.proofs.lemmas.Bool.{false≢true}
use Rattle.wq_items.specs.Table.{ItemWaits}
use Rattle.wq_items.proofs.Lists.{Contains-here}
use Rattle.wq_groups.specs.Declaration.{Declaration, IsDeclaration}
use Rattle.wq_groups.proofs.Declarations.{waiting-item, awaited-item}
use Rattle.wq_groups.proofs.Lanes.{item_lanes-at}
use Rattle.wq_graph.specs.declared.arc.WaitArc.{WaitArc}
use Rattle.wq_graph.specs.Graph.{IsArc, arcs_by_place}
use Rattle.wq_graph.proofs.Graphs.{IsArc-by_place}
use Rattle.wq_levels.specs.Walks.{IsWalkedCircle}
use Rattle.wq_core.specs.Wiring.{HasRescuer, RescuedWaits, lane_of}
use Rattle.wq_core.specs.Workqueues.{wiring_of}
use Rattle.wq_core.proofs.BareWaits.{Deadlocks-bare}
use Rattle.wq_core.proofs.CircleKnots.{Deadlocks-rescued_circle}
use Rattle.wq_core.proofs.LaneCircles.{Circle-map}
use Rattle.wq_deadlock.specs.Judging.{bare_waits, is_on_bare, leads_to_bare}
use Rattle.wq_deadlock.proofs.BareLanes.{IsWiring-workqueues}
use Rattle.wq_fixed.specs.Fixed.{Fixed, IsFixed, AllDeadlock, start}
use Rattle.wq_fixed.proofs.Kept.{lane_now, waits_here, rescuer_here}
use Rattle.wq_fixed.proofs.StartKeeps.{IsAssignmentOf-start}
use Rattle.wq_around.specs.Heights.{start_graph}
use Rattle.wq_around.proofs.DoubtLemmas.{Contains-unfiltered}
use Rattle.wq_around.proofs.RescuedGraphs.{Circle-walked}
use Rattle.std.proofs.lemmas.List.Elements.{All-contains}

leads : (src dst : Bool) → (not src && dst) ≡ true → (src ≡ false) × (dst ≡ true)
leads true dst is = absurd (let never : false ≡ true = is in cc)
leads false dst is = (refl, is)

module _ (d : Declaration) (f : Fixed) (declaration : IsDeclaration d) (fixed : IsFixed d.groups f) where
  -- the flush leads from a lane with a rescuer to a bare one
  waits_for_bare : (x : WaitArc) → Contains (bare_waits d (start f)) x → ItemWaits d.waits x.src x.dst
      × HasRescuer (wiring_of d (start f)) (lane_of (wiring_of d (start f)) x.src)
      × (¬ HasRescuer (wiring_of d (start f)) (lane_of (wiring_of d (start f)) x.dst))
  waits_for_bare x there =
      let was = Contains-unfiltered (leads_to_bare (start f) d.group_of) (arcs_by_place d.waits d.group_of) x there in
      let arc = All-contains (IsArc d.waits d.group_of) (arcs_by_place d.waits d.group_of) x
      (IsArc-by_place d.waits d.group_of declaration.places_are_numbered) was.0 in
      let is = arc.declared in
      let waits : ItemWaits d.waits x.src x.dst = (is.0, is.1, is.2, is.3, is.4.0) in
      let ends = leads (is_on_bare (start f) d.group_of x.src) (is_on_bare (start f) d.group_of x.dst) was.1 in
      let src = item_lanes-at (start f).assignment d.group_of x.src (waiting-item d declaration x.src x.dst waits) in
      let dst = item_lanes-at (start f).assignment d.group_of x.dst (awaited-item d declaration x.src x.dst waits) in (
        waits,
        ap (λ (q : ℕ). get_or f.bare q false) src ∙ ends.0,
        λ rescuer. false≢true (sym rescuer ∙ ap (λ (q : ℕ). get_or f.bare q false) dst ∙ ends.1),
      )

  pub AllDeadlock-bare : (x : WaitArc) (others : List WaitArc) → bare_waits d (start f) ≡ x ∷ others → AllDeadlock d f
  AllDeadlock-bare x others is ws assignment keeps =
      let there : Contains (bare_waits d (start f)) x =
      subst (λ (l : List WaitArc). Contains l x) (sym is) (Contains-here x others) in
      let bare = waits_for_bare x there in
      let here = rescuer_here d f ws declaration fixed assignment keeps in
      Deadlocks-bare (wiring_of d ws) x.src x.dst (IsWiring-workqueues d ws declaration assignment) bare.0
      (sym (here x.src (waiting-item d declaration x.src x.dst bare.0)) ∙ bare.1)
      (λ rescuer. bare.2 (here x.dst (awaited-item d declaration x.src x.dst bare.0) ∙ rescuer))

  pub AllDeadlock-circle : (circle : List WaitArc) → IsWalkedCircle (start_graph d f) circle → AllDeadlock d f
  AllDeadlock-circle circle walked ws assignment keeps =
      Deadlocks-rescued_circle (wiring_of d ws) (IsWiring-workqueues d ws declaration assignment)
      (Circle-map (RescuedWaits (wiring_of d (start f))) (RescuedWaits (wiring_of d ws))
      (lane_now d f ws declaration fixed assignment keeps) (waits_here d f ws declaration fixed assignment keeps)
      (Circle-walked d (start f) declaration (IsAssignmentOf-start d.groups f fixed) circle walked))
