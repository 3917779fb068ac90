-- Places: the flush of each arc of a chain, or of components, is declared, and so is the flush of each wait of a walk.
use Rattle.std.proofs.Common.{ℕ, ◌<◌, ◌==◌, not, Bool, inl, inr, List, [], ◌∷◌, length, map, get_or, refl, sym, subst, arith}
use Rattle.std.specs.List.{All, range_with_len}
use Rattle.std.proofs.lemmas.List.Elements.{All-cons, All-filter, All-map, Contains-get_or}
use Rattle.wq_items.specs.Table.{flush_count}
use Rattle.wq_groups.specs.Declaration.{Declaration, IsDeclaration}
use Rattle.wq_groups.specs.Assignment.{Assignment, IsAssignment, item_lanes}
use Rattle.wq_graph.specs.declared.arc.WaitArc.{WaitArc}
use Rattle.wq_graph.specs.Graph.{IsArc, arc_of, arcs_at}
use Rattle.wq_graph.proofs.Arcs.{Contains-by_item, place-below}
use Rattle.wq_core.specs.Workqueues.{Workqueues, wiring_of}
use Rattle.wq_deadlock.specs.Judging.{bare_waits}
use Rattle.wq_deadlock.proofs.BareLanes.{IsArc-bare_waits}
use Rattle.wq_plan.specs.Solve.{IsPlanned}
use Rattle.wq_plan.specs.LongestChain.{IsLongestChain}
use Rattle.wq_plan.proofs.LongestChain.{chain_of-longest}
use Rattle.wq_circles.specs.Components.{joined, kept_graph, loops_at, loops, AreComponents}
use Rattle.wq_circles.proofs.KeptLanes.{AreArcsFrom-kept}
use Rattle.wq_circles.proofs.Loops.{IsAssignment-components}
use Rattle.wq_hang.specs.declared.hop.Hop.{Hop}
use Rattle.wq_hang.specs.Walk.{IsHop, IsPath, IsWalk}
use Rattle.wq_dot.specs.Dotting.{AreShortest}
use Rattle.wq_dot.specs.Flushes.{AreFlushes, AreMarkable}

-- the flush of an arc has one of the places
place_of-below : (d : Declaration) (vertex_of : List ℕ) (a : WaitArc) → IsDeclaration d → IsArc d.waits vertex_of a → a.place < flush_count d.waits
place_of-below d vertex_of a declaration arc = place-below d.waits vertex_of declaration.places_are_numbered a (Contains-by_item d.waits vertex_of a arc)

-- ---- a chain

pub AreMarkable-planned : (d : Declaration) (a : Assignment) (chain : List WaitArc) → IsDeclaration d → IsPlanned d a chain → AreMarkable (flush_count d.waits) chain
AreMarkable-planned d a chain declaration planned =
    let longest : IsLongestChain d a chain = subst (IsLongestChain d a) (sym planned.longest) (chain_of-longest d declaration a planned.plan) in
    λ k e within. place_of-below d d.group_of _ declaration (longest.down.arcs k e within).declared

-- ---- components

AreMarkable-loops : (d : Declaration) (a : Assignment) (bare : List Bool) → IsDeclaration d → IsAssignment d.groups a → All (AreMarkable (flush_count d.waits)) (loops (kept_graph d a bare))
AreMarkable-loops d a bare declaration assignment =
    let lists : List (List WaitArc) = map (loops_at (kept_graph d a bare)) (range_with_len 0 (length (kept_graph d a bare))) in
    All-filter (λ (arcs : List WaitArc). not (length arcs == 0)) (AreMarkable (flush_count d.waits)) lists
    (All-map (AreMarkable (flush_count d.waits)) (loops_at (kept_graph d a bare)) (range_with_len 0 (length (kept_graph d a bare)))
    (λ k e within.
    All-filter (λ (b : WaitArc). b.head == _) (λ (b : WaitArc). b.place < flush_count d.waits) (arcs_at (kept_graph d a bare) _)
    (λ m b inside. place_of-below d (item_lanes a d.group_of) _ declaration ((AreArcsFrom-kept d a bare declaration assignment _).declared m b inside).0)))

pub AreMarkable-components : (d : Declaration) (ws : Workqueues) (components : List (List WaitArc)) → IsDeclaration d → IsAssignment d.groups ws.assignment → AreComponents d ws components → All (AreMarkable (flush_count d.waits)) components
AreMarkable-components d ws components declaration assignment are =
    subst (All (AreMarkable (flush_count d.waits))) (sym are.are)
    (AreMarkable-loops d (joined ws.assignment are.lowest) ws.bare declaration (IsAssignment-components d ws.assignment ws.bare declaration assignment components are))

-- ---- flushes that lead to workqueues without a rescuer

pub AreMarkable-waits : (d : Declaration) (ws : Workqueues) → IsDeclaration d → IsAssignment d.groups ws.assignment → AreMarkable (flush_count d.waits) (bare_waits d ws)
AreMarkable-waits d ws declaration assignment =
    λ k e within. place_of-below d d.group_of _ declaration (IsArc-bare_waits d ws declaration assignment (get_or (bare_waits d ws) k e) (Contains-get_or (bare_waits d ws) k e within)).0

-- ---- the waits of a shortest run that ends stuck

module _ (d : Declaration) (ws : Workqueues) (declaration : IsDeclaration d) where
  -- the flush of a hop has one of the places
  hop-below : (h : Hop) → IsHop (wiring_of d ws) h → h.flush.place < flush_count d.waits
  hop-below h hop =
      let (k, lt, at) = hop.declared in
      place_of-below d d.group_of (arc_of d.group_of h.item h.flush) declaration (record { declared = (k, h.flush, lt, at, (refl, refl)); head = refl })

  path-below : (i : ℕ) (hops : List Hop) (j : ℕ) → IsPath (wiring_of d ws) i hops j → AreFlushes (flush_count d.waits) hops
  path-below i [] j path = λ k e within. absurd (omega (arith, within))
  path-below i (h ∷ hops) j (is, hop, on, path) = All-cons (λ (x : Hop). x.flush.place < flush_count d.waits) h hops (hop-below h hop) (path-below h.next hops j path)

  pub AreFlushes-shortest : (hops : List Hop) → AreShortest d ws hops → AreFlushes (flush_count d.waits) hops
  AreFlushes-shortest hops (inl (safe, none)) = subst (AreFlushes (flush_count d.waits)) (sym none) (λ k e within. absurd (omega (arith, within)))
  AreFlushes-shortest hops (inr (steps, hang)) = by_walk hang.walk
    where
      by_walk : {beside : List ℕ} → IsWalk (wiring_of d ws) hops beside → AreFlushes (flush_count d.waits) hops
      by_walk (inl (round, beside)) = path-below round.first hops round.first round.path
      by_walk (inr (h, hop, bare, one, beside)) =
          subst (AreFlushes (flush_count d.waits)) (sym one) (All-cons (λ (x : Hop). x.flush.place < flush_count d.waits) h [] (hop-below h hop) (λ k e within. absurd (omega (arith, within))))
