-- What holds up items that must go on is printed: each hop of a walk for them is by a flush that is.
use Rattle.std.proofs.Common.{◌≡◌, ℕ, ◌<◌, ◌==◌, ◌⊎◌, inl, inr, Bool, true, false, not, List, [], ◌∷◌, ◌++◌}
use Rattle.std.proofs.Common.{length, map, get_or, refl, sym, ap, subst, ◌∙◌, eq-eqb, eqb-true, arith}
use Rattle.std.specs.Prelude.{◌||◌, ◌&&◌, Contains, flat_map, slice_index, slice_index_or}
use Rattle.std.specs.List.{All}
use Rattle.std.proofs.lemmas.Bool.{cases_Bool}
use Rattle.std.proofs.lemmas.List.{length-map}
use Rattle.std.proofs.lemmas.List.Elements.{All-contains, Contains-append_left, Contains-append_right}
use Rattle.std.proofs.lemmas.List.Elements.{Contains-append_cases}
use Rattle.std.proofs.lemmas.List.Folds.{Any-from_list_any, list_any_at}
use Rattle.wq_items.specs.Readings.{is_among, is_kept, kept_of}
use Rattle.wq_items.proofs.Lists.{Contains-filtered}
use Rattle.wq_groups.specs.Declaration.{Declaration, IsDeclaration}
use Rattle.wq_groups.specs.Assignment.{IsAssignment, item_lane}
use Rattle.wq_groups.proofs.Lanes.{item_lanes-at}
use Rattle.wq_graph.specs.declared.arc.WaitArc.{WaitArc}
use Rattle.wq_graph.specs.Graph.{IsArc, arc_of, arcs_by_place}
use Rattle.wq_graph.proofs.Arcs.{ByPlace-arcs_by_place, Contains-by_item}
use Rattle.wq_graph.proofs.Graphs.{Contains-by_place}
use Rattle.wq_graph.proofs.ListLemmas.{Contains-cases, Contains-flat_map, Contains-from_map, Contains-map}
use Rattle.wq_core.specs.Wiring.{Wiring, HasRescuer, RescuedWaits, items, lane_of}
use Rattle.wq_core.specs.Workqueues.{Workqueues, wiring_of}
use Rattle.wq_core.specs.MustGoOn.{IsSafeFor}
use Rattle.wq_core.specs.Readings.{reading}
use Rattle.wq_deadlock.specs.Judging.{bare_waits}
use Rattle.wq_deadlock.proofs.BareLanes.{IsWiring-workqueues}
use Rattle.wq_hang.specs.declared.hop.Hop.{Hop}
use Rattle.wq_hang.specs.Walk.{IsHop, IsPath, IsToBare}
use Rattle.wq_hang.specs.WalkFor.{HoldsUp, MeetsBare, MeetsRound}
use Rattle.wq_hang.proofs.Fewest.{IsHop-in, IsHop-out, IsPath-in, IsPath-out, IsWiring-reading}
use Rattle.wq_hang.proofs.FewestFor.{IsSafeFor-no_walk, run_for_walk}
use Rattle.wq_circles.specs.Flushes.{AreInOneComponent, IsInComponents, IsDeclaredFlush}
use Rattle.wq_circles.specs.Leading.{AreTogether, Leads}
use Rattle.wq_circles.specs.Held.{AreHeldCircles, CanBeHeld, IsLedTo, IsOrLeads, begins_marked, is_marked_component}
use Rattle.wq_circles.specs.Held.{is_way, places_of}
use Rattle.wq_circles.proofs.ForBare.{AreForBare-waits}
use Rattle.wq_circles.proofs.HeldMarks.{Contains-in_one, rescued-last}
use Rattle.wq_circles.proofs.KeptLanes.{VertexWaits-kept_graph}
use Rattle.wq_circles.proofs.Leading.{Leads-arc, Leads-trans}
use Rattle.wq_circles.proofs.OnCircles.{flush-items, flush-waits, lane-below}
use Rattle.wq_circles.proofs.Promised.{lie, together}
use Rattle.wq_circles.proofs.Safe.{flushes}

-- three tests that hold
and_three : (a b c : Bool) → a ≡ true → b ≡ true → c ≡ true → (a && b && c) ≡ true
and_three true true c one two three = three
and_three true false c one two three = absurd cc
and_three false b c one two three = absurd cc

-- ---- walks of readings

module _ (w : Wiring) (kept : List ℕ) where
  HoldsUp-out : (x : ℕ) (hops : List Hop) → HoldsUp (reading w kept) x hops → HoldsUp w x hops
  HoldsUp-out x hops (inl none) = inl none
  HoldsUp-out x hops (inr (first, lane, inl meets)) = inr (
    first,
    lane,
    inl (record {
      way = meets.way;
      round = meets.round;
      at = meets.at;
      are = meets.are;
      leads = IsPath-out w kept first meets.at meets.way meets.leads;
      some = meets.some;
      goes_round = IsPath-out w kept meets.at meets.at meets.round meets.goes_round;
    }),
  )
  HoldsUp-out x hops (inr (first, lane, inr meets)) = inr (
    first,
    lane,
    inr (record {
      way = meets.way;
      last = meets.last;
      are = meets.are;
      leads = IsPath-out w kept first meets.last.item meets.way meets.leads;
      to_bare = record {
        hop = (IsHop-out w kept meets.last meets.to_bare.hop).0;
        bare = meets.to_bare.bare;
        next = meets.to_bare.next;
      };
    }),
  )

  HoldsUp-in : (x : ℕ) (hops : List Hop) → HoldsUp w x hops
      → ((h : Hop) → Contains hops h → is_kept kept h.flush ≡ true) → HoldsUp (reading w kept) x hops
  HoldsUp-in x hops (inl none) stay = inl none
  HoldsUp-in x hops (inr (first, lane, inl meets)) stay =
      let in_all : (h : Hop) → Contains (meets.way ++ meets.round) h → is_kept kept h.flush ≡ true = λ h there.
      stay h (subst (λ (l : List Hop). Contains l h) (sym meets.are) there) in
      inr (
        first,
        lane,
        inl (record {
          way = meets.way;
          round = meets.round;
          at = meets.at;
          are = meets.are;
          leads = IsPath-in w kept first meets.at meets.way meets.leads
              (λ h there. in_all h (Contains-append_left meets.way meets.round h there));
          some = meets.some;
          goes_round = IsPath-in w kept meets.at meets.at meets.round meets.goes_round
              (λ h there. in_all h (Contains-append_right meets.way meets.round h there));
        }),
      )
  HoldsUp-in x hops (inr (first, lane, inr meets)) stay =
      let in_all : (h : Hop) → Contains (meets.way ++ (meets.last ∷ [])) h → is_kept kept h.flush ≡ true = λ h there.
      stay h (subst (λ (l : List Hop). Contains l h) (sym meets.are) there) in
      inr (
        first,
        lane,
        inr (record {
          way = meets.way;
          last = meets.last;
          are = meets.are;
          leads = IsPath-in w kept first meets.last.item meets.way meets.leads
              (λ h there. in_all h (Contains-append_left meets.way (meets.last ∷ []) h there));
          to_bare = record {
            hop = IsHop-in w kept meets.last meets.to_bare.hop
                (in_all meets.last (Contains-append_right meets.way (meets.last ∷ []) meets.last
                (0, omega arith, refl)));
            bare = meets.to_bare.bare;
            next = meets.to_bare.next;
          };
        }),
      )

  -- the flushes of a walk of a reading are kept
  path-kept : (i j : ℕ) (hops : List Hop) → IsPath (reading w kept) i hops j → (h : Hop) → Contains hops h
      → is_kept kept h.flush ≡ true
  path-kept i j [] path h there = absurd (omega (arith, there.1))
  path-kept i j (g ∷ hops) path h there = elim (Contains-cases g hops h there) [
    | inl same ↦ subst (λ (x : Hop). is_kept kept x.flush ≡ true) same (IsHop-out w kept g path.1).1
    | inr later ↦ path-kept g.next j hops path.3 h later
  ]

  walk-kept : (x : ℕ) (hops : List Hop) → HoldsUp (reading w kept) x hops → (h : Hop) → Contains hops h
      → is_kept kept h.flush ≡ true
  walk-kept x hops (inl none) h there =
      let empty = ap (λ (l : List Hop). length l) none.0 in
      absurd (omega (arith, there.1, empty))
  walk-kept x hops (inr (first, lane, inl meets)) h there =
      elim (Contains-append_cases meets.way meets.round h
      (subst (λ (l : List Hop). Contains l h) meets.are there)) [
        | inl before ↦ path-kept first meets.at meets.way meets.leads h before
        | inr round ↦ path-kept meets.at meets.at meets.round meets.goes_round h round
      ]
  walk-kept x hops (inr (first, lane, inr meets)) h there =
      elim (Contains-append_cases meets.way (meets.last ∷ []) h
      (subst (λ (l : List Hop). Contains l h) meets.are there)) [
        | inl before ↦ path-kept first meets.last.item meets.way meets.leads h before
        | inr last ↦ elim (Contains-cases meets.last [] h last) [
          | inl same ↦
              subst (λ (x : Hop). is_kept kept x.flush ≡ true) same
              (IsHop-out w kept meets.last meets.to_bare.hop).1
          | inr none ↦ absurd (omega (arith, none.1))
        ]
      ]

-- ---- what a walk comes by

module _ (d : Declaration) (ws : Workqueues) (declaration : IsDeclaration d)
    (assignment : IsAssignment d.groups ws.assignment) (named : List ℕ) (components : List (List WaitArc))
    (waits ways : List WaitArc) (circles : AreHeldCircles d ws named components waits ways)
    (within : (i : ℕ) → Contains named i → i < length d.group_of) where
  abbrev w : Wiring
  w = wiring_of d ws

  abbrev R : ℕ → ℕ → Type 0
  R = RescuedWaits w

  abbrev lane : ℕ → ℕ
  lane i = item_lane ws.assignment d.group_of i

  abbrev at : ℕ → ℕ
  at i = lane_of w i

  abbrev all : List (List WaitArc)
  all = circles.all

  abbrev Led : ℕ → Type 0
  Led q = IsLedTo d ws named q

  abbrev Can : ℕ → Type 0
  Can q = CanBeHeld d ws all q

  on_lane : (i : ℕ) → i < length d.group_of → at i ≡ lane i
  on_lane i item = item_lanes-at ws.assignment d.group_of i item

  -- ---- the flush of a hop

  abbrev arc : Hop → WaitArc
  arc h = arc_of d.group_of h.item h.flush

  flush : (h : Hop) → IsHop w h → IsDeclaredFlush d.waits (arc h)
  flush h hop = (hop.declared.0, h.flush, hop.declared.1, hop.declared.2, (refl, refl))

  is_arc : (h : Hop) → IsHop w h → IsArc d.waits d.group_of (arc h)
  is_arc h hop = record { declared = flush h hop; head = refl }

  ends : (b : WaitArc) → IsDeclaredFlush d.waits b → (b.src < length d.group_of) × (b.dst < length d.group_of)
  ends b is = flush-items d ws.assignment ws.bare declaration assignment circles.are.lowest circles.are.are_lowest b is

  below : (i : ℕ) → i < length d.group_of → lane i < ws.assignment.lanes
  below i item =
      lane-below d ws.assignment ws.bare declaration assignment circles.are.lowest circles.are.are_lowest i item

  hop-waits : (h : Hop) → IsHop w h → HasRescuer w (at h.flush.item) → R (at h.item) (at h.flush.item)
  hop-waits h hop rescuer =
      let is = ends (arc h) (flush h hop) in
      let one : at h.item ≡ lane h.item = on_lane h.item is.0 in
      let two : at h.flush.item ≡ lane h.flush.item = on_lane h.flush.item is.1 in
      let waits : R (lane h.item) (lane h.flush.item) =
      (VertexWaits-kept_graph d ws.assignment ws.bare declaration assignment (lane h.item) (lane h.flush.item)).1
      (flush-waits d ws.assignment ws.bare declaration assignment circles.are.lowest circles.are.are_lowest (arc h)
      (flush h hop) (subst (HasRescuer w) one hop.rescuer) (subst (HasRescuer w) two rescuer)) in
      subst (λ (p : ℕ). R p (at h.flush.item)) (sym one) (subst (R (lane h.item)) (sym two) waits)

  -- ---- from workqueue to workqueue

  then_leads : (p q r : ℕ) → R p q → IsOrLeads d ws q r → Leads R p r
  then_leads p q r waits (inl same) = subst (Leads R p) same (Leads-arc R p q waits)
  then_leads p q r waits (inr leads) = Leads-trans R p q r (Leads-arc R p q waits) leads

  led-leads : (p q : ℕ) → Led p → Leads R p q → Led q
  led-leads p q (rescuer, (i, has, rescued, by)) leads = (
    rescued-last d ws declaration assignment p q leads,
    (
      i,
      has,
      rescued,
      elim by [
        | inl same ↦ inr (subst (λ (x : ℕ). Leads R x q) (sym same) leads)
        | inr first ↦ inr (Leads-trans R (lane i) p q first leads)
      ],
    ),
  )

  can-before : (p q : ℕ) → R p q → Can q → Can p
  can-before p q waits (rescuer, (r, by, begins)) = (waits.0, (r, inr (then_leads p q r waits by), begins))

  path-can : (i j : ℕ) (hops : List Hop) → IsPath w i hops j → Can (at j) → Can (at i)
  path-can i j [] path can = subst (λ (x : ℕ). Can (at x)) (sym path) can
  path-can i j (h ∷ hops) path can =
      let target : Can (at h.flush.item) = subst Can path.2 (path-can h.next j hops path.3 can) in
      subst (λ (x : ℕ). Can (at x)) path.0
      (can-before (at h.item) (at h.flush.item) (hop-waits h path.1 target.0) target)

  path-rescuer : (i j : ℕ) (hops : List Hop) → IsPath w i hops j → HasRescuer w (at j) → HasRescuer w (at i)
  path-rescuer i j [] path rescuer = subst (λ (x : ℕ). HasRescuer w (at x)) (sym path) rescuer
  path-rescuer i j (h ∷ hops) path rescuer = subst (λ (x : ℕ). HasRescuer w (at x)) path.0 path.1.rescuer

  path-leads : (i j : ℕ) (hops : List Hop) → IsPath w i hops j → HasRescuer w (at j) → IsOrLeads d ws (at i) (at j)
  path-leads i j [] path rescuer = inl (ap at path)
  path-leads i j (h ∷ hops) path rescuer =
      let rest : IsOrLeads d ws (at h.flush.item) (at j) =
      subst (λ (q : ℕ). IsOrLeads d ws q (at j)) path.2 (path-leads h.next j hops path.3 rescuer) in
      let rescued : HasRescuer w (at h.flush.item) =
      subst (HasRescuer w) path.2 (path-rescuer h.next j hops path.3 rescuer) in
      subst (λ (x : ℕ). IsOrLeads d ws (at x) (at j)) path.0
      (inr (then_leads (at h.item) (at h.flush.item) (at j) (hop-waits h path.1 rescued) rest))

  -- ---- components that are led to

  component-flush : (l : List WaitArc) (b : WaitArc) → Contains all l → Contains l b → IsDeclaredFlush d.waits b
  component-flush l b among there =
      All-contains (IsDeclaredFlush d.waits) l b
      (All-contains (All (IsDeclaredFlush d.waits)) all l
      (flushes d ws.assignment ws.bare declaration assignment all circles.are) among) there

  marked : (i : ℕ) → i < length d.group_of → Led (lane i) → slice_index_or circles.led (lane i) false ≡ true
  marked i item led = (circles.led_to.marked (lane i) (below i item)).1 led

  in_one : (l : List WaitArc) (b : WaitArc) → Contains all l → Contains l b → IsInComponents all b
  in_one l b among there =
      (among.0, l, among.1, among.2, (there.0, b, there.1, there.2, (refl, refl, refl)))

  -- one of its workqueues is led to, so its first one is
  first_marked : (l : List WaitArc) (b : WaitArc) → Contains all l → Contains l b → Led (lane b.src)
      → is_marked_component d ws circles.led l ≡ true
  first_marked [] b among there led = absurd (omega (arith, there.1))
  first_marked (c ∷ cs) b among there led =
      let first : Contains (c ∷ cs) c = (0, omega arith, refl) in
      let is : AreInOneComponent all b c = (
        among.0,
        c ∷ cs,
        among.1,
        among.2,
        (
          (there.0, b, there.1, there.2, (refl, refl, refl)),
          (0, c, omega arith, refl, (refl, refl, refl)),
        ),
      ) in
      let both : AreTogether R (lane b.src) (lane c.src) =
      (together d ws.assignment ws.bare declaration assignment all circles.are b c (in_one (c ∷ cs) b among there)
      (in_one (c ∷ cs) c among first)).0 is in
      let led_first : Led (lane c.src) = elim both [
        | inl same ↦ subst Led same led
        | inr leads ↦ led-leads (lane b.src) (lane c.src) led leads.0
      ] in
      marked c.src (ends c (component-flush (c ∷ cs) c among first)).0 led_first

  pub component-led : (l : List WaitArc) (b : WaitArc) → Contains all l → Contains l b → Led (lane b.src)
      → Contains components l
  component-led l b among there led =
      subst (λ (ls : List (List WaitArc)). Contains ls l) (sym circles.some_components)
      (Contains-filtered (is_marked_component d ws circles.led) all l (first_marked l b among there led) among)

  -- ---- what is printed

  abbrev printed : List WaitArc
  printed = flat_map (λ arcs. arcs) components ++ waits ++ ways

  abbrev places : List ℕ
  places = map (λ (b : WaitArc). b.place) printed

  abbrev IsPrinted : Hop → Type 0
  IsPrinted h = is_among places h.flush.place ≡ true

  abbrev of_components : List WaitArc
  of_components = flat_map (λ arcs. arcs) components

  in_printed : (b : WaitArc) → Contains printed b → is_among places b.place ≡ true
  in_printed b there =
      let has = Contains-map (λ (x : WaitArc). x.place) printed b there in
      list_any_at (λ (p : ℕ). p == b.place) places has.0 b.place has.1
      (eq-eqb (get_or places has.0 b.place) b.place has.2)

  -- two flushes at one place are one
  same_flush : (b c : WaitArc) → IsDeclaredFlush d.waits b → IsDeclaredFlush d.waits c → b.place ≡ c.place
      → b.src ≡ c.src
  same_flush b c one two same =
      let x : WaitArc = record { src = b.src; dst = b.dst; head = slice_index d.group_of b.dst; place = b.place } in
      let y : WaitArc = record { src = c.src; dst = c.dst; head = slice_index d.group_of c.dst; place = c.place } in
      let placed = ByPlace-arcs_by_place d.waits d.group_of declaration.places_are_numbered in
      let arcs : List WaitArc = arcs_by_place d.waits d.group_of in
      let at_x : get_or arcs b.place x ≡ x =
      placed.at x x (Contains-by_item d.waits d.group_of x (record { declared = one; head = refl })) in
      let at_y : get_or arcs c.place x ≡ y =
      placed.at y x (Contains-by_item d.waits d.group_of y (record { declared = two; head = refl })) in
      ap (λ (z : WaitArc). z.src) (sym at_x ∙ ap (λ (p : ℕ). get_or arcs p x) same ∙ at_y)

  in_component : (h : Hop) → IsHop w h → Led (at h.item) → is_among (places_of all) h.flush.place ≡ true → IsPrinted h
  in_component h hop led is =
      let (k, p, lt, here, same) = Any-from_list_any (λ (q : ℕ). q == h.flush.place) (places_of all) is in
      let from = Contains-from_map (λ (b : WaitArc). b.place) (flat_map (λ arcs. arcs) all) p (k, lt, here) in
      let b : WaitArc = from.0 in
      let one = Contains-in_one all b from.1 in
      let place : b.place ≡ h.flush.place = from.2 ∙ eqb-true p h.flush.place same in
      let declared : IsDeclaredFlush d.waits b = component-flush one.0 b one.1 one.2 in
      let src : b.src ≡ h.item = same_flush b (arc h) declared (flush h hop) place in
      let from_lane : at h.item ≡ lane b.src =
      on_lane h.item (ends (arc h) (flush h hop)).0 ∙ ap lane (sym src) in
      let has : Contains components one.0 = component-led one.0 b one.1 one.2 (subst Led from_lane led) in
      let there : Contains printed b = Contains-append_left (of_components ++ waits) ways b
      (Contains-append_left of_components waits b
      (Contains-flat_map (λ (l : List WaitArc). l) components one.0 b has one.2)) in
      subst (λ (q : ℕ). is_among places q ≡ true) place (in_printed b there)

  is_a_way : (h : Hop) → IsHop w h → Led (at h.item) → Can (at h.flush.item)
      → is_among (places_of all) h.flush.place ≡ false → IsPrinted h
  is_a_way h hop led can fails =
      let is = ends (arc h) (flush h hop) in
      let begins = marked h.item is.0 (subst Led (on_lane h.item is.0) led) in
      let ends_there : slice_index_or circles.held (lane h.flush.item) false ≡ true =
      (circles.can_be_held.marked (lane h.flush.item) (below h.flush.item is.1)).1
      (subst Can (on_lane h.flush.item is.1) can) in
      let passes : is_way d ws circles.led circles.held all (arc h) ≡ true =
      and_three (slice_index_or circles.led (lane h.item) false) (slice_index_or circles.held (lane h.flush.item) false)
      (not (is_among (places_of all) h.flush.place)) begins ends_there (ap not fails) in
      let kept = Contains-filtered (is_way d ws circles.led circles.held all) (arcs_by_place d.waits d.group_of) (arc h)
      passes (Contains-by_place d.waits d.group_of declaration.places_are_numbered (arc h) (is_arc h hop)) in
      let there : Contains ways (arc h) =
      subst (λ (l : List WaitArc). Contains l (arc h)) (sym circles.are_ways) kept in
      in_printed (arc h) (Contains-append_right (of_components ++ waits) ways (arc h) there)

  hop-printed : (h : Hop) → IsHop w h → Led (at h.item) → Can (at h.flush.item) → IsPrinted h
  hop-printed h hop led can = elim (cases_Bool (is_among (places_of all) h.flush.place)) [
    | inl is ↦ in_component h hop led is
    | inr fails ↦ is_a_way h hop led can fails
  ]

  -- ---- a hop to a workqueue without a rescuer

  to_bare-found : (h : Hop) → IsToBare w h → (b : WaitArc) × Contains (bare_waits d ws) b × (b.src ≡ h.item)
      × (b.place ≡ h.flush.place)
  to_bare-found h to_bare =
      let is = ends (arc h) (flush h to_bare.hop) in
      let src : HasRescuer w (lane h.item) = subst (HasRescuer w) (on_lane h.item is.0) to_bare.hop.rescuer in
      let dst : ¬ HasRescuer w (lane h.flush.item) =
      subst (λ (q : ℕ). ¬ HasRescuer w q) (on_lane h.flush.item is.1) to_bare.bare in
      let has = ((AreForBare-waits d ws declaration assignment).lie (arc h) (flush h to_bare.hop)).1 (src, dst) in
      (has.1, (has.0, has.2, has.3), has.4.0, has.4.2)

  to_bare-can : (h : Hop) → IsToBare w h → Can (at h.item)
  to_bare-can h to_bare =
      let b = to_bare-found h to_bare in
      let is = ends (arc h) (flush h to_bare.hop) in
      let on : lane b.0.src ≡ at h.item = ap lane b.2 ∙ sym (on_lane h.item is.0) in
      (to_bare.hop.rescuer, (at h.item, inl refl, inr (b.1.0, b.0, b.1.1, b.1.2, on)))

  pub to_bare-led : (h : Hop) → IsToBare w h → Led (at h.item) → (b : WaitArc) × Contains waits b
      × (b.place ≡ h.flush.place)
  to_bare-led h to_bare led =
      let b = to_bare-found h to_bare in
      let is = ends (arc h) (flush h to_bare.hop) in
      let on : at h.item ≡ lane b.0.src = on_lane h.item is.0 ∙ ap lane (sym b.2) in
      let item : b.0.src < length d.group_of = subst (λ (i : ℕ). i < length d.group_of) (sym b.2) is.0 in
      let passes : begins_marked d ws circles.led b.0 ≡ true = marked b.0.src item (subst Led on led) in (
        b.0,
        subst (λ (l : List WaitArc). Contains l b.0) (sym circles.some_waits)
            (Contains-filtered (begins_marked d ws circles.led) (bare_waits d ws) b.0 passes b.1),
        b.3,
      )

  to_bare-printed : (h : Hop) → IsToBare w h → Led (at h.item) → IsPrinted h
  to_bare-printed h to_bare led =
      let b = to_bare-led h to_bare led in
      subst (λ (q : ℕ). is_among places q ≡ true) b.2
      (in_printed b.0 (Contains-append_left (of_components ++ waits) ways b.0
      (Contains-append_right of_components waits b.0 b.1)))

  -- ---- a path, and a round

  path-printed : (i j : ℕ) (hops : List Hop) → IsPath w i hops j → Led (at i) → Can (at j)
      → ((h : Hop) → Contains hops h → IsPrinted h) × Led (at j)
  path-printed i j [] path led can = (
    λ h there. absurd (omega (arith, there.1)),
    subst (λ (x : ℕ). Led (at x)) path led,
  )
  path-printed i j (h ∷ hops) path led can =
      let target : Can (at h.flush.item) = subst Can path.2 (path-can h.next j hops path.3 can) in
      let led_item : Led (at h.item) = subst (λ (x : ℕ). Led (at x)) (sym path.0) led in
      let waits_on : R (at h.item) (at h.flush.item) = hop-waits h path.1 target.0 in
      let led_target : Led (at h.flush.item) = led-leads (at h.item) (at h.flush.item) led_item
      (Leads-arc R (at h.item) (at h.flush.item) waits_on) in
      let rest = path-printed h.next j hops path.3 (subst Led (sym path.2) led_target) can in (
        λ g there. elim (Contains-cases h hops g there) [
          | inl same ↦ subst IsPrinted same (hop-printed h path.1 led_item target)
          | inr later ↦ rest.0 g later
        ],
        rest.1,
      )

  -- the first flush of a round is in a component
  round-found : (z : ℕ) (h : Hop) (hops : List Hop) → IsPath w z (h ∷ hops) z
      → (l : List WaitArc) × (b : WaitArc) × Contains all l × Contains l b × (lane b.src ≡ at z)
  round-found z h hops path =
      let is = ends (arc h) (flush h path.1) in
      let at_z : at h.item ≡ at z = ap at path.0 in
      let rescuer : HasRescuer w (at z) = subst (HasRescuer w) at_z path.1.rescuer in
      let target : HasRescuer w (at h.flush.item) =
      subst (HasRescuer w) path.2 (path-rescuer h.next z hops path.3 rescuer) in
      let waits_on : R (at h.item) (at h.flush.item) = hop-waits h path.1 target in
      let back : IsOrLeads d ws (at h.flush.item) (at h.item) =
      subst (IsOrLeads d ws (at h.flush.item)) (sym at_z)
      (subst (λ (q : ℕ). IsOrLeads d ws q (at z)) path.2 (path-leads h.next z hops path.3 rescuer)) in
      let leads : Leads R (at h.flush.item) (at h.item) = elim back [
        | inl same ↦
            subst (λ (q : ℕ). Leads R q (at h.item)) (sym same)
            (Leads-arc R (at h.item) (at h.item) (subst (R (at h.item)) same waits_on))
        | inr by ↦ by
      ] in
      let on_lanes : Leads R (lane h.flush.item) (lane h.item) =
      subst (λ (q : ℕ). Leads R q (lane h.item)) (on_lane h.flush.item is.1)
      (subst (Leads R (at h.flush.item)) (on_lane h.item is.0) leads) in
      let found : IsInComponents all (arc h) =
      (lie d ws.assignment ws.bare declaration assignment all circles.are (arc h) (flush h path.1)).1 on_lanes in
      let inside = found.4 in (
        found.1,
        inside.1,
        (found.0, found.2, found.3),
        (inside.0, inside.2, inside.3),
        ap lane inside.4.0 ∙ sym (on_lane h.item is.0) ∙ at_z,
      )

  round-can : (z : ℕ) (h : Hop) (hops : List Hop) → IsPath w z (h ∷ hops) z → Can (at z)
  round-can z h hops path =
      let found = round-found z h hops path in
      let rescuer : HasRescuer w (at z) = subst (λ (x : ℕ). HasRescuer w (at x)) path.0 path.1.rescuer in
      let has = Contains-flat_map (λ (l : List WaitArc). l) all found.0 found.1 found.2 found.3 in
      (rescuer, (at z, inl refl, inl (has.0, found.1, has.1, has.2, found.4)))

  pub round-led : (z : ℕ) (h : Hop) (hops : List Hop) → IsPath w z (h ∷ hops) z → Led (at z)
      → (l : List WaitArc) × Contains components l
  round-led z h hops path led =
      let found = round-found z h hops path in
      (found.0, component-led found.0 found.1 found.2 found.3 (subst Led (sym found.4) led))

  -- ---- a walk

  -- the workqueue of a named item is led to, if it has a rescuer
  led_first : (x first : ℕ) → Contains named x → at first ≡ at x → HasRescuer w (at first) → Led (at first)
  led_first x first has same rescuer =
      let on : at first ≡ lane x = same ∙ on_lane x (within x has) in
      (rescuer, (x, has, subst (HasRescuer w) on rescuer, inl (sym on)))

  -- what a walk for one of the items comes to is printed
  pub record Shows (hops : List Hop) : Type 0 where
    pub printed : (h : Hop) → Contains hops h → IsPrinted h
    pub some : ((l : List WaitArc) × Contains components l) ⊎ ((b : WaitArc) × Contains waits b)

  shows_round : (x first : ℕ) (hops : List Hop) → Contains named x → at first ≡ at x → MeetsRound w first hops
      → Shows hops
  shows_round x first hops has same meets = by meets.round meets.some meets.goes_round meets.are
    where
      by : (round : List Hop) → 0 < length round → IsPath w meets.at round meets.at → hops ≡ meets.way ++ round
          → Shows hops
      by [] some goes_round are = absurd (omega (arith, some))
      by (h ∷ rest) some goes_round are =
          let can : Can (at meets.at) = round-can meets.at h rest goes_round in
          let led : Led (at first) =
          led_first x first has same (path-can first meets.at meets.way meets.leads can).0 in
          let way = path-printed first meets.at meets.way meets.leads led can in
          let round = path-printed meets.at meets.at (h ∷ rest) goes_round way.1 can in
          record {
            printed = λ g there. elim (Contains-append_cases meets.way (h ∷ rest) g
                (subst (λ (l : List Hop). Contains l g) are there)) [
                  | inl before ↦ way.0 g before
                  | inr later ↦ round.0 g later
                ];
            some = inl (round-led meets.at h rest goes_round way.1);
          }

  shows_bare : (x first : ℕ) (hops : List Hop) → Contains named x → at first ≡ at x → MeetsBare w first hops
      → Shows hops
  shows_bare x first hops has same meets =
      let can : Can (at meets.last.item) = to_bare-can meets.last meets.to_bare in
      let led : Led (at first) =
      led_first x first has same (path-can first meets.last.item meets.way meets.leads can).0 in
      let way = path-printed first meets.last.item meets.way meets.leads led can in
      let bare = to_bare-led meets.last meets.to_bare way.1 in
      record {
        printed = λ g there. elim (Contains-append_cases meets.way (meets.last ∷ []) g
            (subst (λ (l : List Hop). Contains l g) meets.are there)) [
              | inl before ↦ way.0 g before
              | inr later ↦ elim (Contains-cases meets.last [] g later) [
                | inl is ↦ subst IsPrinted is (to_bare-printed meets.last meets.to_bare way.1)
                | inr none ↦ absurd (omega (arith, none.1))
              ]
            ];
        some = inr (bare.0, bare.1);
      }

  pub shows_walk : (x : ℕ) (hops : List Hop) → Contains named x → HoldsUp w x hops
      → ((hops ≡ []) × (¬ HasRescuer w (at x))) ⊎ Shows hops
  shows_walk x hops has (inl none) = inl none
  shows_walk x hops has (inr (first, same, inl meets)) = inr (shows_round x first hops has same meets)
  shows_walk x hops has (inr (first, same, inr meets)) = inr (shows_bare x first hops has same meets)

  walk_printed : (x : ℕ) (hops : List Hop) → Contains named x → HoldsUp w x hops → (h : Hop) → Contains hops h
      → IsPrinted h
  walk_printed x hops has holds h there = elim (shows_walk x hops has holds) [
    | inl none ↦ absurd (omega (arith, there.1, ap (λ (l : List Hop). length l) none.0))
    | inr shows ↦ shows.printed h there
  ]

  -- ---- no difference

  pub IsSafeFor-alike : (kept others : List ℕ)
      → ((p : ℕ) → is_among places p ≡ true → is_among kept p ≡ is_among others p)
      → IsSafeFor (reading w kept) named → IsSafeFor (reading w others) named
  IsSafeFor-alike kept others alike safe =
      let wiring = IsWiring-workqueues d ws declaration assignment in
      IsSafeFor-no_walk (reading w others) named (IsWiring-reading w others wiring) (λ x hops walk.
      let out = HoldsUp-out w others x hops walk.holds_up in
      let stay : (h : Hop) → Contains hops h → is_kept kept h.flush ≡ true = λ h there.
      ap (λ (b : Bool). not h.flush.unsure || b) (alike h.flush.place (walk_printed x hops walk.is_named out h there))
      ∙ walk-kept w others x hops walk.holds_up h there in
      let item : x < items (reading w kept) =
      omega (arith, walk.item, length-map d.waits (kept_of kept), length-map d.waits (kept_of others)) in
      let ends_stuck = run_for_walk (reading w kept) named x hops (IsWiring-reading w kept wiring)
      (record { is_named = walk.is_named; item = item; holds_up = HoldsUp-in w kept x hops out stay }) in
      safe 0 (omega arith) ends_stuck.0 ends_stuck.1.0 ends_stuck.1.1)
