-- The items that a run queues first, if no flush leads to a workqueue without a rescuer: their workqueues wait in a
-- circle.
use Rattle.std.proofs.Common.{◌≡◌, ◌≢◌, ℕ, suc, ◌+◌, ◌-◌, ◌<◌, Bool, List, [], ◌∷◌, length, map, get_or, refl, sym, ap, subst, ◌∙◌, arith}
use Rattle.std.specs.Prelude.{slice_index}
use Rattle.std.proofs.lemmas.List.{ext_get_or, get_or-map, length-map}
use Rattle.std.proofs.lemmas.List.Elements.{All-contains}
use Rattle.wq_items.specs.Chain.{IsChain, last_of, Circle}
use Rattle.wq_groups.specs.Declaration.{Declaration, IsDeclaration}
use Rattle.wq_groups.specs.Assignment.{Assignment, IsAssignment, item_lane, item_lanes}
use Rattle.wq_groups.proofs.Lanes.{item_lanes-at}
use Rattle.wq_graph.specs.declared.arc.WaitArc.{WaitArc}
use Rattle.wq_graph.specs.Graph.{arcs_at, IsArc}
use Rattle.wq_levels.specs.Walks.{LeadsRound}
use Rattle.wq_levels.proofs.Walks.{LeadsRound-walked}
use Rattle.wq_core.specs.declared.step.Step.{Step}
use Rattle.wq_core.specs.Wiring.{RescuedWaits}
use Rattle.wq_core.specs.Workqueues.{Workqueues, wiring_of}
use Rattle.wq_deadlock.specs.CircleRun.{flushing_items}
use Rattle.wq_deadlock.specs.Judging.{bare_waits, rescued_graph, AreFirst, IsHang}
use Rattle.wq_circles.specs.Components.{kept_graph}
use Rattle.wq_circles.proofs.KeptLanes.{AreArcsFrom-kept, VertexWaits-kept_graph}
use Rattle.wq_circles.proofs.Loops.{IsArc-items}

-- ---- chains by their places

IsChain-at : (R : ℕ → ℕ → Type 0) (vs : List ℕ) → ((k : ℕ) → suc k < length vs → R (slice_index vs k) (slice_index vs (suc k))) → IsChain R vs
IsChain-at R [] each = tt
IsChain-at R (v ∷ []) each = tt
IsChain-at R (v ∷ w ∷ vs) each = (each 0 (omega arith), IsChain-at R (w ∷ vs) (λ k lt. each (suc k) (omega (arith, lt))))

last-at : (v : ℕ) (vs : List ℕ) → last_of v vs ≡ slice_index (v ∷ vs) (length vs)
last-at v [] = refl
last-at v (w ∷ vs) = last-at w vs

-- vertices of which each waits for the next, and the last for the first
goes_round : (R : ℕ → ℕ → Type 0) (vs ws : List ℕ) → vs ≡ ws → 0 < length vs → IsChain R vs → R (slice_index vs (length vs - 1)) (slice_index vs 0)
    → (circle : Circle R) × (circle.first ∷ circle.others ≡ ws)
goes_round R [] ws same some chain closes = absurd (omega (arith, some))
goes_round R (v ∷ vs) ws same some chain closes =
    let at : length (v ∷ vs) - 1 ≡ length vs = omega arith in
    let last : slice_index (v ∷ vs) (length (v ∷ vs) - 1) ≡ last_of v vs = ap (slice_index (v ∷ vs)) at ∙ sym (last-at v vs) in
    (record { first = v; others = vs; chain = chain; closes = subst (λ (x : ℕ). R x v) last closes }, same)

-- ---- the circle of the walk

module _ (d : Declaration) (a : Assignment) (bare : List Bool) (declaration : IsDeclaration d) (assignment : IsAssignment d.groups a) (circle : List WaitArc)
    (round : LeadsRound (kept_graph d a bare) circle) where
  abbrev R : ℕ → ℕ → Type 0
  R = RescuedWaits (wiring_of d (record { assignment = a; bare = bare }))

  abbrev no_arc : WaitArc
  no_arc = record { src = 0; dst = 0; head = 0; place = 0 }

  abbrev arc : ℕ → WaitArc
  arc k = get_or circle k no_arc

  some : 0 < length circle
  some = some_of circle round.some
    where
      some_of : (arcs : List WaitArc) → arcs ≢ [] → 0 < length arcs
      some_of [] none = absurd (none refl)
      some_of (x ∷ arcs) none = omega arith

  waits : (k : ℕ) → k < length circle → (q : ℕ) → (arc k).head ≡ q → R (slice_index round.left k) q
  waits k lt q head =
      let there = round.leaves k no_arc lt in
      (VertexWaits-kept_graph d a bare declaration assignment (slice_index round.left k) q).1 (there.0, arc k, there.1, there.2, head)

  next_waits : (k : ℕ) → suc k < length round.left → R (slice_index round.left k) (slice_index round.left (suc k))
  next_waits k lt =
      let e : k + 1 ≡ suc k = omega arith in
      waits k (omega (arith, lt, round.one_each)) (slice_index round.left (suc k)) (round.joined k no_arc (omega (arith, lt, round.one_each)) ∙ ap (slice_index round.left) e)

  last_waits : R (slice_index round.left (length round.left - 1)) (slice_index round.left 0)
  last_waits =
      let e : length round.left - 1 ≡ length circle - 1 = ap (λ (n : ℕ). n - 1) round.one_each in
      subst (λ (k : ℕ). R (slice_index round.left k) (slice_index round.left 0)) (sym e) (waits (length circle - 1) (omega (arith, some)) (slice_index round.left 0) (round.closes no_arc))

  -- arc k leaves the workqueue of its item
  leaves : (k : ℕ) → k < length circle → slice_index round.left k ≡ item_lane a d.group_of (arc k).src
  leaves k lt =
      let v = slice_index round.left k in
      let own = All-contains (λ (c : WaitArc). IsArc d.waits (item_lanes a d.group_of) c × (slice_index (item_lanes a d.group_of) c.src ≡ v)) (arcs_at (kept_graph d a bare) v) (arc k)
      (AreArcsFrom-kept d a bare declaration assignment v).declared (round.leaves k no_arc lt) in
      let items = IsArc-items d a bare declaration assignment (arc k) own.0 in
      sym own.1 ∙ item_lanes-at a d.group_of (arc k).src items.0

  size : length (flushing_items circle) ≡ length circle
  size = length-map circle (λ (b : WaitArc). b.src)

  are_lanes : round.left ≡ map (item_lane a d.group_of) (flushing_items circle)
  are_lanes = ext_get_or 0 round.left (map (item_lane a d.group_of) (flushing_items circle)) (round.one_each ∙ sym (length-map (flushing_items circle) (item_lane a d.group_of) ∙ size)) (λ k lt.
      let within : k < length circle = omega (arith, lt, round.one_each) in
      leaves k within
      ∙ ap (item_lane a d.group_of) (sym (get_or-map (λ (b : WaitArc). b.src) circle k no_arc 0 within))
      ∙ sym (get_or-map (item_lane a d.group_of) (flushing_items circle) k 0 0 (omega (arith, within, size)))
      )

  pub Circle-items : (c : Circle R) × (c.first ∷ c.others ≡ map (item_lane a d.group_of) (flushing_items circle))
  Circle-items =
      goes_round R round.left (map (item_lane a d.group_of) (flushing_items circle)) are_lanes (omega (arith, some, round.one_each)) (IsChain-at R round.left next_waits) last_waits

-- ---- the items that are queued first

abbrev GoRound : Declaration → Workqueues → List ℕ → Type 0
GoRound d ws items = (c : Circle (RescuedWaits (wiring_of d ws))) × (c.first ∷ c.others ≡ map (item_lane ws.assignment d.group_of) items)

pub Circle-first : (d : Declaration) (ws : Workqueues) (first : List ℕ) → IsDeclaration d → IsAssignment d.groups ws.assignment → AreFirst d ws [] first → GoRound d ws first
Circle-first d ws first declaration assignment (circle, walked, is) =
    subst (GoRound d ws) (sym is) (Circle-items d ws.assignment ws.bare declaration assignment circle (LeadsRound-walked (rescued_graph d ws) circle walked))

pub Circle-hang : (d : Declaration) (ws : Workqueues) (steps : List Step) (hang : IsHang d ws steps) → IsDeclaration d → bare_waits d ws ≡ [] → GoRound d ws hang.first
Circle-hang d ws steps hang declaration none =
    Circle-first d ws hang.first declaration hang.assignment (subst (λ (waits : List WaitArc). AreFirst d ws waits hang.first) none hang.are_first)
