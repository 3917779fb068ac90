-- Each component has a round of waits on the workqueues of its flushes' items.
use Rattle.std.proofs.Common.{◌≡◌, ◌≢◌, ℕ, ◌<◌, inr, List, [], ◌∷◌, length, refl, sym, ap, subst, ◌∙◌, arith}
use Rattle.std.specs.Prelude.{Contains, slice_index}
use Rattle.std.specs.List.{All}
use Rattle.std.proofs.lemmas.List.Elements.{All-cons, All-contains}
use Rattle.wq_items.specs.Chain.{IsChain, last_of}
use Rattle.wq_items.specs.declared.target.Target.{Target}
use Rattle.wq_groups.specs.Declaration.{Declaration, IsDeclaration}
use Rattle.wq_groups.specs.Assignment.{Assignment, IsAssignment, item_lane, item_lanes}
use Rattle.wq_groups.proofs.Lanes.{item_lanes-at}
use Rattle.wq_graph.specs.declared.arc.WaitArc.{WaitArc}
use Rattle.wq_graph.specs.Graph.{HasArc, IsArc, arcs_at}
use Rattle.wq_core.specs.Wiring.{Wiring, HasRescuer, lane_of}
use Rattle.wq_core.specs.Workqueues.{Workqueues, wiring_of}
use Rattle.wq_hang.specs.declared.hop.Hop.{Hop}
use Rattle.wq_hang.specs.Walk.{IsHop, IsPath, IsRoundOn}
use Rattle.wq_circles.specs.Components.{AreComponents, joined, kept_graph, loops, loops_at}
use Rattle.wq_circles.specs.Flushes.{IsDeclaredFlush}
use Rattle.wq_circles.specs.Leading.{AreLowest, Leads}
use Rattle.wq_circles.proofs.Joined.{AreLowest-within}
use Rattle.wq_circles.proofs.KeptLanes.{AreArcsFrom-kept, Leads-first, Leads-last, VertexWaits-kept_graph}
use Rattle.wq_circles.proofs.Leading.{IsLowest-same, Leads-arc, Leads-trans}
use Rattle.wq_circles.proofs.Loops.{IsArc-items}
use Rattle.wq_circles.proofs.OnCircles.{AreLoops, AreLoops-loops, Contains-loops, IsLoop, IsLoop-leads}
use Rattle.wq_circles.proofs.OnCircles.{IsLoop-loops_at, arc_in, assigned, flush-items, flush-waits, lane-below}
use Rattle.wq_circles.proofs.OnCircles.{loop-leads, loop-vertex}
use Rattle.wq_circles.proofs.Safe.{some_arcs}

module _ (d : Declaration) (ws : Workqueues) (declaration : IsDeclaration d)
    (assignment : IsAssignment d.groups ws.assignment) (lowest : List ℕ)
    (are : AreLowest (HasArc (kept_graph d ws.assignment ws.bare)) ws.assignment.lanes lowest) where
  abbrev a : Assignment
  a = ws.assignment

  abbrev w : Wiring
  w = wiring_of d ws

  abbrev R : ℕ → ℕ → Type 0
  R = HasArc (kept_graph d a ws.bare)

  abbrev lane : ℕ → ℕ
  lane i = item_lane a d.group_of i

  -- what is said of an item's lane in the wiring is said of it
  on_lane : (i : ℕ) → i < length d.group_of → lane_of w i ≡ lane i
  on_lane i item = item_lanes-at a d.group_of i item

  -- ---- a wait between two workqueues

  -- a flush that is declared, of an item on workqueue p, and its target on workqueue q
  record IsBetween (p q i : ℕ) (t : Target) : Type 0 where
    pub item : i < length d.group_of
    pub from : lane i ≡ p
    pub to : lane_of w t.item ≡ q
    pub hop : (next : ℕ) → IsHop w (record { item = i; flush = t; next = next })
    pub arc : WaitArc
    pub src : arc.src ≡ i
    pub flush : IsDeclaredFlush d.waits arc
    pub dst : lane arc.dst ≡ q

  -- the arcs of workqueue p, and their flushes
  abbrev Leaves : ℕ → WaitArc → Type 0
  Leaves p b = IsArc d.waits (item_lanes a d.group_of) b × (slice_index (item_lanes a d.group_of) b.src ≡ p)

  -- the flush of an arc of the graph
  between : (p q : ℕ) → R p q → (i : ℕ) × (t : Target) × IsBetween p q i t
  between p q waits =
      let c = waits.1 in
      let own = All-contains (Leaves p) (arcs_at (kept_graph d a ws.bare) p) c
      (AreArcsFrom-kept d a ws.bare declaration assignment p).declared (waits.0, waits.2, waits.3) in
      let items = IsArc-items d a ws.bare declaration assignment c own.0 in
      let t = own.0.declared.1 in
      let rescued = (VertexWaits-kept_graph d a ws.bare declaration assignment p q).1 waits in
      let to : slice_index (item_lanes a d.group_of) c.dst ≡ q = sym own.0.head ∙ waits.4 in (
        c.src,
        t,
        record {
          item = items.0;
          from = sym (on_lane c.src items.0) ∙ own.1;
          to = ap (λ (i : ℕ). lane_of w i) own.0.declared.4.0 ∙ to;
          hop = λ next. record {
            declared = (own.0.declared.0, own.0.declared.2, own.0.declared.3);
            rescuer = subst (HasRescuer w) (sym own.1) rescued.0;
          };
          arc = c;
          src = refl;
          flush = own.0.declared;
          dst = sym (on_lane c.dst items.1) ∙ to;
        },
      )

  -- ---- the walk from a flush of a component back to its item

  abbrev joined_one : Assignment
  joined_one = joined a lowest

  abbrev joined_is : IsAssignment d.groups joined_one
  joined_is = assigned d a ws.bare declaration assignment lowest are

  -- these are the flushes of a component: the loops of this vertex
  abbrev arcs_of : ℕ → List WaitArc
  arcs_of v = loops_at (kept_graph d joined_one ws.bare) v

  abbrev IsOne : ℕ → WaitArc → Type 0
  IsOne v b = IsLoop d joined_one ws.bare declaration joined_is v b

  module _ (v : ℕ) (lanes : List ℕ) (each : (b : WaitArc) → Contains (arcs_of v) b → Contains lanes (lane b.src))
      (z : ℕ) (inside : z < a.lanes) (at : slice_index lowest z ≡ v) where
    -- an item is on one of their workqueues, if z leads to its workqueue and back, and the target of its flush leads
    -- back to it
    stays_on : (p q i : ℕ) (t : Target) → IsBetween p q i t → Leads R z p → Leads R p z → Leads R q p
        → Contains lanes (lane_of w i)
    stays_on p q i t is there home back =
        let c = is.arc in
        let lane_below = lane-below d a ws.bare declaration assignment lowest are i is.item in
        let below = subst (λ (x : ℕ). x < a.lanes) is.from lane_below in
        let together = IsLowest-same R z p (slice_index lowest z) (slice_index lowest p) (inr (there, home))
        (are.is z inside) (are.is p below) in
        let same : slice_index lowest p ≡ v = sym together ∙ at in
        let from : lane c.src ≡ p = ap lane is.src ∙ is.from in
        let leads = subst (λ (x : ℕ). Leads R (lane c.dst) x) (sym from)
        (subst (λ (x : ℕ). Leads R x p) (sym is.dst) back) in
        let found = arc_in d a ws.bare declaration assignment lowest are joined_one c in
        let loop : IsOne v found =
        subst (λ (x : ℕ). IsOne x found) (ap (slice_index lowest) from ∙ same)
        (IsLoop-leads d a ws.bare declaration assignment lowest are c is.flush leads) in
        let vertex : v < a.lanes =
        subst (λ (x : ℕ). x < a.lanes) same
        (AreLowest-within R a.lanes lowest are p 0 (omega (arith, below, are.one_each))) in
        let in_component = Contains-loops d joined_one ws.bare declaration joined_is v found vertex loop in
        subst (Contains lanes) (ap lane is.src ∙ sym (on_lane i is.item)) (each found in_component.1)

    -- a walk from an item on workqueue p to item j, whose items that wait are on these workqueues
    record HasPath (p j : ℕ) : Type 0 where
      pub item : ℕ
      pub on : lane_of w item ≡ p
      pub hops : List Hop
      pub path : IsPath w item hops j
      pub stays : All (λ (h : Hop). Contains lanes (lane_of w h.item)) hops

    -- the first hop, and those that come after
    hop_first : (p q i : ℕ) (t : Target) (j : ℕ) → IsBetween p q i t → Contains lanes (lane_of w i) → HasPath q j
        → HasPath p j
    hop_first p q i t j is on rest =
        let h : Hop = record { item = i; flush = t; next = rest.item } in
        record {
          item = i;
          on = on_lane i is.item ∙ is.from;
          hops = h ∷ rest.hops;
          path = (refl, is.hop rest.item, rest.on ∙ sym is.to, rest.path);
          stays = All-cons (λ (h : Hop). Contains lanes (lane_of w h.item)) h rest.hops on rest.stays;
        }

    path_from : (j : ℕ) → lane_of w j ≡ z → (p : ℕ) (qs : List ℕ) → IsChain R (p ∷ qs) → last_of p qs ≡ z
        → Leads R z p → HasPath p j
    path_from j on p [] chain ends there = record {
      item = j;
      on = on ∙ sym ends;
      hops = [];
      path = refl;
      stays = λ k e within. absurd (omega (arith, within));
    }
    path_from j on p (q ∷ qs) chain ends there =
        let (i, t, is) = between p q chain.0 in
        let home : Leads R p z = record {
          others = q ∷ qs;
          some = λ same. (let bad : q ∷ qs ≡ [] = same in absurd cc);
          chain = chain;
          ends = ends;
        } in
        let back : Leads R q p = leads_back qs chain.1 ends in
        hop_first p q i t j is (stays_on p q i t is there home back)
        (path_from j on q qs chain.1 ends (Leads-trans R z p q there (Leads-arc R p q chain.0)))
      where
        leads_back : (qs : List ℕ) → IsChain R (q ∷ qs) → last_of q qs ≡ z → Leads R q p
        leads_back [] chain ends = subst (λ (x : ℕ). Leads R x p) (sym ends) there
        leads_back (x ∷ xs) chain ends =
            let onward : Leads R q z = record {
              others = x ∷ xs;
              some = λ same. (let bad : x ∷ xs ≡ [] = same in absurd cc);
              chain = chain;
              ends = ends;
            } in
            Leads-trans R q z p onward there

  -- a component with a flush has a round
  round_of : (v : ℕ) (lanes : List ℕ)
      → ((b : WaitArc) → Contains (arcs_of v) b → Contains lanes (lane b.src))
      → (b : WaitArc) → Contains (arcs_of v) b → (hops : List Hop) × IsRoundOn w lanes hops
  round_of v lanes each b here =
      let loop = All-contains (IsOne v) (arcs_of v) b (IsLoop-loops_at d joined_one ws.bare declaration joined_is v)
      here in
      let items = flush-items d a ws.bare declaration assignment lowest are b loop.arc.declared in
      let at = loop-vertex d a ws.bare declaration assignment lowest are v b loop in
      let leads = loop-leads d a ws.bare declaration assignment lowest are v b loop in
      let z = lane b.src in
      let inside = lane-below d a ws.bare declaration assignment lowest are b.src items.0 in
      let arc = flush-waits d a ws.bare declaration assignment lowest are b loop.arc.declared
      (Leads-last d a ws.bare declaration assignment (lane b.dst) z leads)
      (Leads-first d a ws.bare declaration assignment (lane b.dst) z leads) in
      let on = on_lane b.src items.0 in
      let to = on_lane b.dst items.1 in
      let rest = path_from v lanes each z inside at b.src on (lane b.dst) leads.others leads.chain leads.ends
      (Leads-arc R z (lane b.dst) arc) in
      let h : Hop = record { item = b.src; flush = loop.arc.declared.1; next = rest.item } in
      let rescued = (VertexWaits-kept_graph d a ws.bare declaration assignment z (lane b.dst)).1 arc in
      let hop : IsHop w h = record {
        declared = (loop.arc.declared.0, loop.arc.declared.2, loop.arc.declared.3);
        rescuer = subst (HasRescuer w) (sym on) rescued.0;
      } in
      let hops : List Hop = h ∷ rest.hops in (
        hops,
        record {
          round = record {
            some = omega arith;
            first = b.src;
            path = (
              refl,
              hop,
              rest.on ∙ sym (ap (λ (i : ℕ). lane_of w i) loop.arc.declared.4.0 ∙ to),
              rest.path,
            );
          };
          stays = λ g there.
              All-contains (λ (h : Hop). Contains lanes (lane_of w h.item)) hops g
              (All-cons (λ (h : Hop). Contains lanes (lane_of w h.item)) h rest.hops
              (subst (Contains lanes) (sym on) (each b here)) rest.stays) there;
        },
      )

-- what isn't empty has an element
some_element : {X : Type 0} (xs : List X) → xs ≢ [] → (x : X) × Contains xs x
some_element [] some = absurd (some refl)
some_element (x ∷ xs) some = (x, (0, omega arith, refl))

pub IsRoundOn-component : (d : Declaration) (ws : Workqueues) (components : List (List WaitArc)) (arcs : List WaitArc)
    (lanes : List ℕ) → IsDeclaration d → IsAssignment d.groups ws.assignment → AreComponents d ws components
    → Contains components arcs
    → ((b : WaitArc) → Contains arcs b → Contains lanes (item_lane ws.assignment d.group_of b.src))
    → (hops : List Hop) × IsRoundOn (wiring_of d ws) lanes hops
IsRoundOn-component d ws components arcs lanes declaration assignment are among each =
    let one = joined ws.assignment are.lowest in
    let ones = assigned d ws.assignment ws.bare declaration assignment are.lowest are.are_lowest in
    let there = subst (λ (l : List (List WaitArc)). Contains l arcs) are.are among in
    let loops_are = All-contains (AreLoops d one ws.bare declaration ones) (loops (kept_graph d one ws.bare)) arcs
    (AreLoops-loops d one ws.bare declaration ones) there in
    let some = some_element arcs
    (All-contains (λ (l : List WaitArc). l ≢ []) components arcs (some_arcs d ws components are) among) in
    let each_of : (b : WaitArc) → Contains (loops_at (kept_graph d one ws.bare) loops_are.vertex) b
    → Contains lanes (item_lane ws.assignment d.group_of b.src) =
    λ b here. each b (subst (λ (l : List WaitArc). Contains l b) (sym loops_are.are) here) in
    round_of d ws declaration assignment are.lowest are.are_lowest loops_are.vertex lanes each_of some.0
    (subst (λ (l : List WaitArc). Contains l some.0) loops_are.are some.1)
