-- No component, and no run that ends stuck.
use Rattle.std.proofs.Common.{◌≡◌, ◌≢◌, ℕ, ◌<◌, ◌≤◌, ◌⊎◌, inl, inr, Bool, List, [], ◌∷◌, length, get_or, refl, sym, ap}
use Rattle.std.proofs.Common.{subst, ◌∙◌, arith}
use Rattle.std.specs.Prelude.{slice_index}
use Rattle.std.specs.List.{All}
use Rattle.std.proofs.lemmas.List.{ext_get_or}
use Rattle.std.proofs.lemmas.List.Elements.{All-contains}
use Rattle.wq_items.specs.Chain.{IsChain, last_of, Circle}
use Rattle.wq_groups.specs.Declaration.{Declaration, IsDeclaration}
use Rattle.wq_groups.specs.Assignment.{Assignment, IsAssignment, item_lane, item_lanes}
use Rattle.wq_groups.proofs.Lanes.{item_lanes-at}
use Rattle.wq_graph.specs.declared.arc.WaitArc.{WaitArc}
use Rattle.wq_graph.specs.Graph.{HasArc, arcs_at, IsArc}
use Rattle.wq_levels.proofs.Existence.{AreRanks-or_walk}
use Rattle.wq_levels.proofs.OneCircle.{HasCircle-walked}
use Rattle.wq_core.specs.Wiring.{RescuedWaits}
use Rattle.wq_core.specs.Workqueues.{Workqueues, wiring_of}
use Rattle.wq_core.specs.Deadlock.{IsSafe, Deadlocks}
use Rattle.wq_core.proofs.CircleKnots.{Deadlocks-rescued_circle}
use Rattle.wq_core.proofs.KnotRuns.{Deadlocks-knot}
use Rattle.wq_core.proofs.LaneCircles.{Circle-map}
use Rattle.wq_deadlock.specs.Judging.{bare_waits}
use Rattle.wq_deadlock.proofs.BareLanes.{IsWiring-workqueues, IsKnot-first, AreSafe-ranks}
use Rattle.wq_deadlock.proofs.Renumbered.{not_safe-deadlocks}
use Rattle.wq_circles.proofs.KeptLanes.{AreArcsFrom-kept, VertexWaits-kept_graph, IsGraph-kept_graph, Leads-first}
use Rattle.wq_circles.proofs.KeptLanes.{Leads-last}
use Rattle.wq_circles.specs.Leading.{Leads, AreLowest}
use Rattle.wq_circles.proofs.Leading.{Leads-arc, IsLowest-same}
use Rattle.wq_circles.specs.Components.{joined, kept_graph, loops, AreComponents}
use Rattle.wq_circles.specs.Flushes.{IsInComponents, IsDeclaredFlush}
use Rattle.wq_circles.proofs.Loops.{IsArc-items}
use Rattle.wq_circles.proofs.OnCircles.{Leads-component, IsInComponents-leads, IsDeclaredFlush-components, flush-waits}
use Rattle.wq_circles.proofs.OnCircles.{not_nil-loops}

-- ---- one list

pub AreLowest-unique : (R : ℕ → ℕ → Type 0) (n : ℕ) (one other : List ℕ) → AreLowest R n one → AreLowest R n other
    → one ≡ other
AreLowest-unique R n one other first second =
    ext_get_or 0 one other (first.one_each ∙ sym second.one_each) (λ v within.
    let inside : v < n = omega (arith, within, first.one_each) in
    IsLowest-same R v v (slice_index one v) (slice_index other v) (inl refl) (first.is v inside) (second.is v inside)
    )

pub AreComponents-unique : (d : Declaration) (ws : Workqueues) (one other : List (List WaitArc))
    → AreComponents d ws one → AreComponents d ws other → one ≡ other
AreComponents-unique d ws one other first second =
    first.are
    ∙ ap (λ (l : List ℕ). loops (kept_graph d (joined ws.assignment l) ws.bare))
    (AreLowest-unique (HasArc (kept_graph d ws.assignment ws.bare)) ws.assignment.lanes first.lowest second.lowest
    first.are_lowest second.are_lowest)
    ∙ sym second.are

-- no component is empty
pub some_arcs : (d : Declaration) (ws : Workqueues) (components : List (List WaitArc)) → AreComponents d ws components
    → All (λ (arcs : List WaitArc). arcs ≢ []) components
some_arcs d ws components are = subst (All (λ (arcs : List WaitArc). arcs ≢ [])) (sym are.are)
    (not_nil-loops (kept_graph d (joined ws.assignment are.lowest) ws.bare))

-- ---- circles

-- an arc whose end leads back closes a circle
closes : (R : ℕ → ℕ → Type 0) (v w : ℕ) → R v w → Leads R w v → Circle R
closes R v w arc leads = record {
  first = w;
  others = leads.others;
  chain = leads.chain;
  closes =
      subst (λ (x : ℕ). R x w) (sym leads.ends) arc;
}

-- the first vertex of a circle leads to the last, whose arc closes it
pub led_back : (R : ℕ → ℕ → Type 0) (first : ℕ) (others : List ℕ) → IsChain R (first ∷ others)
    → R (last_of first others) first → Leads R first (last_of first others)
led_back R first [] chain closes = Leads-arc R first first closes
led_back R first (v ∷ vs) chain closes = record {
  others = v ∷ vs;
  some =
      λ same. (let bad : v ∷ vs ≡ [] = same in absurd cc);
  chain = chain;
  ends = refl;
}

module _ (d : Declaration) (a : Assignment) (bare : List Bool) (declaration : IsDeclaration d)
    (assignment : IsAssignment d.groups a) (components : List (List WaitArc))
    (are : AreComponents d (record { assignment = a; bare = bare }) components) where
  abbrev ws : Workqueues
  ws = record { assignment = a; bare = bare }

  -- a circle has an arc, and that is in a component
  circle_found : Circle (HasArc (kept_graph d a bare)) → (b : WaitArc) × IsInComponents components b
  circle_found circle =
      let v = last_of circle.first circle.others in
      let b = circle.closes.1 in
      let own = All-contains (λ (c : WaitArc). IsArc d.waits (item_lanes a d.group_of) c
      × (slice_index (item_lanes a d.group_of) c.src ≡ v)) (arcs_at (kept_graph d a bare) v) b
      (AreArcsFrom-kept d a bare declaration assignment v).declared (circle.closes.0, circle.closes.2, circle.closes.3)
      in
      let items = IsArc-items d a bare declaration assignment b own.0 in
      let from : v ≡ item_lane a d.group_of b.src = sym own.1 ∙ item_lanes-at a d.group_of b.src items.0 in
      let to : circle.first ≡ item_lane a d.group_of b.dst = sym circle.closes.4 ∙ own.0.head
      ∙ item_lanes-at a d.group_of b.dst items.1 in
      let leads = led_back (HasArc (kept_graph d a bare)) circle.first circle.others circle.chain circle.closes in
      let back = subst (λ (x : ℕ). Leads (HasArc (kept_graph d a bare)) x (item_lane a d.group_of b.src)) to
      (subst (λ (x : ℕ). Leads (HasArc (kept_graph d a bare)) circle.first x) from leads) in (
        b,
        subst (λ (l : List (List WaitArc)). IsInComponents l b) (sym are.are)
            (IsInComponents-leads d a bare declaration assignment are.lowest are.are_lowest b own.0.declared back),
      )

  pub IsSafe-none : a.lanes ≤ 4096 → components ≡ [] → bare_waits d ws ≡ [] → IsSafe (wiring_of d ws)
  IsSafe-none few none no_waits = elim (AreRanks-or_walk (kept_graph d a bare)
      (IsGraph-kept_graph d a bare declaration assignment few)) [
        | inl ranks ↦ (AreSafe-ranks d ws declaration assignment few no_waits ranks.0 ranks.1).safe
        | inr walk ↦
            let found = circle_found (HasCircle-walked (kept_graph d a bare)
            (IsGraph-kept_graph d a bare declaration assignment few) walk.0 walk.1).0 in
            absurd (omega (arith, found.1.2, ap (λ (l : List (List WaitArc)). length l) none))
      ]

  pub flushes : All (All (IsDeclaredFlush d.waits)) components
  flushes = subst (All (All (IsDeclaredFlush d.waits))) (sym are.are)
      (IsDeclaredFlush-components d a bare declaration assignment are.lowest are.are_lowest)

  -- what is in a component closes a circle
  closed : (b : WaitArc) → IsInComponents components b → IsDeclaredFlush d.waits b
      → Circle (HasArc (kept_graph d a bare))
  closed b is flush =
      let leads = Leads-component d a bare declaration assignment are.lowest are.are_lowest b
      (subst (λ (l : List (List WaitArc)). IsInComponents l b) are.are is) in
      closes (HasArc (kept_graph d a bare)) _ _
      (flush-waits d a bare declaration assignment are.lowest are.are_lowest b flush
      (Leads-last d a bare declaration assignment _ _ leads)
      (Leads-first d a bare declaration assignment _ _ leads)) leads

  none_from : (lists : List (List WaitArc)) → components ≡ lists → (lists ≡ []) ⊎ Circle (HasArc (kept_graph d a bare))
  none_from [] is = inl refl
  none_from ([] ∷ rest) is = absurd (some_arcs d ws components are 0 []
      (omega (arith, ap (λ (l : List (List WaitArc)). length l) is))
      (ap (λ (l : List (List WaitArc)). get_or l 0 []) is))
  none_from ((b ∷ bs) ∷ rest) is =
      let there : IsInComponents components b = subst (λ (l : List (List WaitArc)). IsInComponents l b) (sym is)
      (0, b ∷ bs, omega arith, refl, (0, b, omega arith, refl, (refl, refl, refl))) in
      let flush : IsDeclaredFlush d.waits b = subst (All (All (IsDeclaredFlush d.waits))) is flushes 0 [] (omega arith)
      0 b (omega arith) in
      inr (closed b there flush)

  pub none_or_circle : (components ≡ []) ⊎ Circle (HasArc (kept_graph d a bare))
  none_or_circle = none_from components refl

  -- a component deadlocks, and so does a flush that leads to a bare lane
  Deadlocks-waits : (waits : List WaitArc) → waits ≡ bare_waits d ws → waits ≢ [] → Deadlocks (wiring_of d ws)
  Deadlocks-waits [] is some = absurd (some refl)
  Deadlocks-waits (x ∷ more) is some = Deadlocks-knot (wiring_of d ws) (x.src ∷ [])
      (IsWiring-workqueues d ws declaration assignment)
      (IsKnot-first d ws declaration assignment (x ∷ more) is (x.src ∷ []) refl)

  Deadlocks-components : Circle (HasArc (kept_graph d a bare)) → Deadlocks (wiring_of d ws)
  Deadlocks-components circle =
      Deadlocks-rescued_circle (wiring_of d ws) (IsWiring-workqueues d ws declaration assignment)
      (Circle-map (HasArc (kept_graph d a bare)) (RescuedWaits (wiring_of d ws)) (λ q. q)
      (λ p q arc. (VertexWaits-kept_graph d a bare declaration assignment p q).1 arc) circle)

  pub Deadlocks-some : (components ≢ []) ⊎ (bare_waits d ws ≢ []) → Deadlocks (wiring_of d ws)
  Deadlocks-some (inl some) = elim none_or_circle [
    | inl none ↦ absurd (some none)
    | inr circle ↦ Deadlocks-components circle
  ]
  Deadlocks-some (inr some) = Deadlocks-waits (bare_waits d ws) refl some

  pub none-IsSafe : IsSafe (wiring_of d ws) → (components ≡ []) × (bare_waits d ws ≡ [])
  none-IsSafe safe = (
    elim none_or_circle [
      | inl none ↦ none
      | inr circle ↦ absurd (not_safe-deadlocks (wiring_of d ws) (Deadlocks-components circle) safe)
    ],
    no_waits (bare_waits d ws) refl,
  )
    where
      no_waits : (waits : List WaitArc) → waits ≡ bare_waits d ws → waits ≡ []
      no_waits [] is = refl
      no_waits (x ∷ more) is = absurd (not_safe-deadlocks (wiring_of d ws)
          (Deadlocks-waits (x ∷ more) is (λ same. (let bad : x ∷ more ≡ [] = same in absurd cc))) safe)
