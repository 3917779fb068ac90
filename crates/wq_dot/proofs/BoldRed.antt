-- The waits of a shortest run that ends stuck are red, too: each lies on a circle, or it is one that leads to no rescuer.
use Rattle.std.proofs.Common.{◌≡◌, ◌⊎◌, ℕ, ◌<◌, inl, inr, List, [], ◌∷◌, length, refl, sym, ap, subst, arith}
use Rattle.std.specs.List.{All}
use Rattle.std.proofs.lemmas.List.Elements.{All-cons}
use Rattle.std.proofs.lemmas.Option.{slice_get-get_or}
use Rattle.wq_groups.specs.Declaration.{Declaration, IsDeclaration}
use Rattle.wq_groups.specs.Assignment.{IsAssignment, item_lane}
use Rattle.wq_groups.proofs.Lanes.{item_lanes-at}
use Rattle.wq_graph.specs.declared.arc.WaitArc.{WaitArc}
use Rattle.wq_graph.specs.Graph.{HasArc, arc_of}
use Rattle.wq_core.specs.Wiring.{Wiring, IsWiring, HasRescuer, RescuedWaits, items, lane_of}
use Rattle.wq_core.specs.Workqueues.{Workqueues, wiring_of}
use Rattle.wq_core.proofs.Wirings.{IsWiring-wiring, IsWiring-with_bare}
use Rattle.wq_hang.specs.declared.hop.Hop.{Hop}
use Rattle.wq_hang.specs.Walk.{IsHop, IsPath, IsWalk}
use Rattle.wq_hang.proofs.Declared.{declared-item, declared-target}
use Rattle.wq_circles.specs.Components.{AreComponents, kept_graph}
use Rattle.wq_circles.specs.Flushes.{IsDeclaredFlush, IsInComponents}
use Rattle.wq_circles.specs.Leading.{Leads}
use Rattle.wq_circles.proofs.Leading.{Leads-arc, Leads-trans}
use Rattle.wq_circles.proofs.ForBare.{AreForBare-waits}
use Rattle.wq_circles.proofs.KeptLanes.{VertexWaits-kept_graph}
use Rattle.wq_circles.proofs.OnCircles.{IsInComponents-leads, Leads-keeps}
use Rattle.wq_dot.specs.Dotting.{AreShortest}
use Rattle.wq_dot.specs.Laws.{IsRed}

module _ (d : Declaration) (ws : Workqueues) (declaration : IsDeclaration d) (assignment : IsAssignment d.groups ws.assignment) where
  abbrev w : Wiring
  w = wiring_of d ws

  abbrev R : ℕ → ℕ → Type 0
  R = RescuedWaits w

  abbrev lane : ℕ → ℕ
  lane i = lane_of w i

  wired : IsWiring w
  wired = IsWiring-with_bare _ ws.bare (IsWiring-wiring d ws.assignment declaration assignment)

  -- the arc of a hop's flush, which is declared
  abbrev flush_of : Hop → WaitArc
  flush_of h = arc_of d.group_of h.item h.flush

  declared : (h : Hop) → IsHop w h → IsDeclaredFlush d.waits (flush_of h)
  declared h hop =
      let (k, lt, at) = hop.declared in
      (k, h.flush, lt, at, (refl, refl))

  -- the lane of the item that waits waits for that of the target
  hop-waits : (h : Hop) → IsHop w h → HasRescuer w (lane h.flush.item) → R (lane h.item) (lane h.flush.item)
  hop-waits h hop rescuer =
      let (k, lt, at) = hop.declared in (
        hop.rescuer,
        rescuer,
        record {
          item = h.item;
          target = h.flush.item;
          declares = (k, h.flush, lt, at, refl);
          of_item = slice_get-get_or w.lane_of_item h.item 0 (omega (arith, declared-item w h.item h.flush hop.declared, wired.one_lane_each));
          of_target = slice_get-get_or w.lane_of_item h.flush.item 0 (omega (arith, declared-target w h.item h.flush wired hop.declared, wired.one_lane_each));
        },
      )

  -- ---- a walk round

  -- the two lanes are the same, or one leads to the other
  abbrev AreNear : ℕ → ℕ → Type 0
  AreNear p q = (p ≡ q) ⊎ Leads R p q

  near-trans : (p q r : ℕ) → AreNear p q → AreNear q r → AreNear p r
  near-trans p q r (inl same) near = subst (λ (x : ℕ). AreNear x r) (sym same) near
  near-trans p q r (inr leads) (inl same) = inr (subst (Leads R p) same leads)
  near-trans p q r (inr leads) (inr more) = inr (Leads-trans R p q r leads more)

  -- what comes first on a walk has a rescuer, if the end has one
  path-rescued : (i : ℕ) (hops : List Hop) (j : ℕ) → IsPath w i hops j → HasRescuer w (lane j) → HasRescuer w (lane i)
  path-rescued i [] j is rescuer = subst (λ (x : ℕ). HasRescuer w (lane x)) (sym is) rescuer
  path-rescued i (h ∷ hops) j (is, hop, on, path) rescuer = subst (λ (x : ℕ). HasRescuer w (lane x)) is hop.rescuer

  first_rescued : (hops : List Hop) (i j : ℕ) → 0 < length hops → IsPath w i hops j → HasRescuer w (lane i)
  first_rescued [] i j some path = absurd (omega (arith, some))
  first_rescued (h ∷ hops) i j some (is, hop, on, path) = subst (λ (x : ℕ). HasRescuer w (lane x)) is hop.rescuer

  -- the lane of a hop's item leads to that of the next one
  hop-leads : (h : Hop) (hops : List Hop) (j : ℕ) → IsHop w h → lane h.next ≡ lane h.flush.item → IsPath w h.next hops j → HasRescuer w (lane j) → Leads R (lane h.item) (lane h.next)
  hop-leads h hops j hop on path rescuer =
      let next = path-rescued h.next hops j path rescuer in
      subst (Leads R (lane h.item)) (sym on) (Leads-arc R (lane h.item) (lane h.flush.item) (hop-waits h hop (subst (HasRescuer w) on next)))

  path-near : (i : ℕ) (hops : List Hop) (j : ℕ) → IsPath w i hops j → HasRescuer w (lane j) → AreNear (lane i) (lane j)
  path-near i [] j is rescuer = inl (ap lane is)
  path-near i (h ∷ hops) j (is, hop, on, path) rescuer =
      near-trans (lane i) (lane h.next) (lane j) (inr (subst (λ (x : ℕ). Leads R (lane x) (lane h.next)) is (hop-leads h hops j hop on path rescuer))) (path-near h.next hops j path rescuer)

  -- if the end of a path leads back to its beginning, each target leads back to its item
  path-back : (i : ℕ) (hops : List Hop) (j : ℕ) → IsPath w i hops j → HasRescuer w (lane j) → AreNear (lane j) (lane i) → All (λ (h : Hop). IsHop w h × Leads R (lane h.flush.item) (lane h.item)) hops
  path-back i [] j is rescuer back = λ k e within. absurd (omega (arith, within))
  path-back i (h ∷ hops) j (is, hop, on, path) rescuer back =
      let leads : Leads R (lane h.item) (lane h.next) = hop-leads h hops j hop on path rescuer in
      let home : AreNear (lane j) (lane h.item) = subst (λ (x : ℕ). AreNear (lane j) (lane x)) (sym is) back in
      let round = near-trans (lane h.next) (lane j) (lane h.item) (path-near h.next hops j path rescuer) home in
      All-cons (λ (x : Hop). IsHop w x × Leads R (lane x.flush.item) (lane x.item)) h hops (hop, subst (λ (l : ℕ). Leads R l (lane h.item)) on (leads_back (lane h.next) (lane h.item) leads round))
      (path-back h.next hops j path rescuer (near-trans (lane j) (lane h.item) (lane h.next) home (inr leads)))
    where
      leads_back : (p q : ℕ) → Leads R q p → AreNear p q → Leads R p q
      leads_back p q leads (inl same) = subst (Leads R p) same (subst (λ (x : ℕ). Leads R x p) (sym same) leads)
      leads_back p q leads (inr back) = back

  -- ---- what is red

  module _ (components : List (List WaitArc)) (are : AreComponents d ws components) where
    on_lane : (i : ℕ) → i < items w → lane i ≡ item_lane ws.assignment d.group_of i
    on_lane i below = item_lanes-at ws.assignment d.group_of i (omega (arith, below, declaration.one_list_each))

    in_component : (b : WaitArc) → IsDeclaredFlush d.waits b → Leads R (item_lane ws.assignment d.group_of b.dst) (item_lane ws.assignment d.group_of b.src) → IsInComponents components b
    in_component b flush leads =
        let graph = kept_graph d ws.assignment ws.bare in
        subst (λ (l : List (List WaitArc)). IsInComponents l b) (sym are.are)
        (IsInComponents-leads d ws.assignment ws.bare declaration assignment are.lowest are.are_lowest b flush
        (Leads-keeps R (HasArc graph) (λ p q waits. (VertexWaits-kept_graph d ws.assignment ws.bare declaration assignment p q).0 waits) _ _ leads))

    circled : (h : Hop) → IsHop w h → Leads R (lane h.flush.item) (lane h.item) → IsRed d ws components (flush_of h)
    circled h hop leads =
        let src = on_lane h.item (declared-item w h.item h.flush hop.declared) in
        let dst = on_lane h.flush.item (declared-target w h.item h.flush wired hop.declared) in
        inl (in_component (flush_of h) (declared h hop)
        (subst (Leads R (item_lane ws.assignment d.group_of h.flush.item)) src (subst (λ (l : ℕ). Leads R l (lane h.item)) dst leads)))

    to_bare : (h : Hop) → IsHop w h → (¬ HasRescuer w (lane h.flush.item)) → IsRed d ws components (flush_of h)
    to_bare h hop bare =
        let src = on_lane h.item (declared-item w h.item h.flush hop.declared) in
        let dst = on_lane h.flush.item (declared-target w h.item h.flush wired hop.declared) in
        inr (((AreForBare-waits d ws declaration assignment).lie (flush_of h) (declared h hop)).1 (subst (HasRescuer w) src hop.rescuer, λ rescuer. bare (subst (HasRescuer w) (sym dst) rescuer)))

    pub AreRed-shortest : (hops : List Hop) → AreShortest d ws hops → All (λ (h : Hop). IsRed d ws components (flush_of h)) hops
    AreRed-shortest hops (inl (safe, none)) = subst (All (λ (h : Hop). IsRed d ws components (flush_of h))) (sym none) (λ k e within. absurd (omega (arith, within)))
    AreRed-shortest hops (inr (steps, hang)) = by_walk hang.walk
      where
        by_walk : {beside : List ℕ} → IsWalk w hops beside → All (λ (h : Hop). IsRed d ws components (flush_of h)) hops
        by_walk (inl (round, beside)) =
            let back = path-back round.first hops round.first round.path (first_rescued hops round.first round.first round.some round.path) (inl refl) in
            λ k e within. circled _ (back k e within).0 (back k e within).1
        by_walk (inr (h, hop, bare, one, beside)) =
            subst (All (λ (x : Hop). IsRed d ws components (flush_of x))) (sym one) (All-cons (λ (x : Hop). IsRed d ws components (flush_of x)) h [] (to_bare h hop bare) (λ k e within. absurd (omega (arith, within))))
