-- An unsure flush that isn't printed makes no difference. In a circle of waits each wait leads back, so its flush is in
-- a component.
use Rattle.std.proofs.Common.{◌≡◌, ◌≢◌, ℕ, ◌<◌, ◌≤◌, ◌==◌, ◌↔◌, ◌⊎◌, inl, inr, Bool, true, false, List, [], ◌∷◌, ◌++◌}
use Rattle.std.proofs.Common.{length, map, get_or, Some, refl, sym, ap, subst, ◌∙◌, eq-eqb, eqb-true, arith}
use Rattle.std.specs.Prelude.{◌||◌, not, Contains, filter, flat_map, slice_get}
use Rattle.std.specs.List.{Any}
use Rattle.std.proofs.lemmas.Bool.{cases_Bool, or_right, true≢false}
use Rattle.std.proofs.lemmas.List.{length-map}
use Rattle.std.proofs.lemmas.List.Elements.{All-contains, All-contains_itself, All-filter, filter_passes}
use Rattle.std.proofs.lemmas.List.Elements.{Contains-append_left, Contains-append_right}
use Rattle.std.proofs.lemmas.List.Folds.{list_any_at}
use Rattle.std.proofs.lemmas.Option.{slice_get_within, get_or_from_slice_get}
use Rattle.wq_items.specs.Chain.{IsChain, last_of, Circle}
use Rattle.wq_items.specs.declared.target.Target.{Target}
use Rattle.wq_items.specs.Table.{ItemWaits, targets_of}
use Rattle.wq_items.specs.Readings.{is_among, is_kept, kept_of}
use Rattle.wq_items.proofs.Lists.{Contains-filtered}
use Rattle.wq_items.proofs.ReadingLemmas.{targets_of-kept}
use Rattle.wq_groups.specs.Declaration.{Declaration, IsDeclaration, reading_declared}
use Rattle.wq_groups.specs.Assignment.{Assignment, IsAssignment, group_lane, item_lane, item_lanes}
use Rattle.wq_groups.proofs.Declarations.{IsDeclaration-reading}
use Rattle.wq_groups.proofs.Lanes.{item_lanes-at}
use Rattle.wq_graph.specs.declared.arc.WaitArc.{WaitArc}
use Rattle.wq_graph.specs.Graph.{HasArc, arc_of}
use Rattle.wq_graph.proofs.ListLemmas.{Contains-map, Contains-flat_map}
use Rattle.wq_levels.proofs.Existence.{AreRanks-or_walk}
use Rattle.wq_levels.proofs.OneCircle.{HasCircle-walked}
use Rattle.wq_core.specs.Wiring.{Wiring, HasRescuer, RescuedWaits}
use Rattle.wq_core.specs.Workqueues.{Workqueues, wiring_of}
use Rattle.wq_core.specs.Deadlock.{IsSafe, Deadlocks}
use Rattle.wq_core.specs.Readings.{reading, DeclaresMore, SameButPlaces}
use Rattle.wq_core.proofs.CircleKnots.{Deadlocks-rescued_circle}
use Rattle.wq_core.proofs.LaneCircles.{Circle-map}
use Rattle.wq_core.proofs.MoreFlushes.{DeclaresMore-reading, DeclaresMore-same, SameButPlaces-compact}
use Rattle.wq_core.proofs.MoreFlushes.{SameButPlaces-sym}
use Rattle.wq_core.proofs.MoreFlushes.{IsSafe-fewer}
use Rattle.wq_deadlock.specs.Judging.{bare_waits}
use Rattle.wq_deadlock.proofs.BareLanes.{IsWiring-workqueues, IsArc-bare_waits, Deadlocks-bare, AreSafe-ranks}
use Rattle.wq_deadlock.proofs.Renumbered.{not_safe-deadlocks}
use Rattle.wq_circles.specs.Components.{AreComponents, kept_graph}
use Rattle.wq_circles.specs.Flushes.{HasFlush, IsInComponents, IsDeclaredFlush}
use Rattle.wq_circles.specs.Leading.{Leads}
use Rattle.wq_circles.proofs.ForBare.{AreForBare-waits}
use Rattle.wq_circles.proofs.KeptLanes.{IsGraph-kept_graph, VertexWaits-kept_graph}
use Rattle.wq_circles.proofs.Leading.{Leads-arc, Leads-trans}
use Rattle.wq_circles.proofs.OnCircles.{Leads-keeps}
use Rattle.wq_circles.proofs.Promised.{lie}
use Rattle.wq_circles.proofs.Safe.{led_back}

-- ---- circles

module _ (R : ℕ → ℕ → Type 0) where
  -- one waits for the other, which leads back to it
  abbrev pub Returns : ℕ → ℕ → Type 0
  Returns p q = R p q × Leads R q p

  -- the end of the chain leads back to its beginning, so each of its waits leads back
  returns-chain : (z p : ℕ) (qs : List ℕ) → IsChain R (p ∷ qs) → last_of p qs ≡ z → Leads R z p
      → IsChain Returns (p ∷ qs)
  returns-chain z p [] chain ends back = tt
  returns-chain z p (q ∷ qs) chain ends back = (
    (chain.0, leads_back qs chain.1 ends),
    returns-chain z q qs chain.1 ends (Leads-trans R z p q back (Leads-arc R p q chain.0)),
  )
    where
      leads_back : (qs : List ℕ) → IsChain R (q ∷ qs) → last_of q qs ≡ z → Leads R q p
      leads_back [] chain ends = subst (λ (x : ℕ). Leads R x p) (sym ends) back
      leads_back (x ∷ xs) chain ends =
          let onward : Leads R q z = record {
            others = x ∷ xs;
            some = λ same. (let bad : x ∷ xs ≡ [] = same in absurd cc);
            chain = chain;
            ends = ends;
          } in
          Leads-trans R q z p onward back

  pub Circle-returns : Circle R → Circle Returns
  Circle-returns c =
      let z = last_of c.first c.others in
      record {
        first = c.first;
        others = c.others;
        chain = returns-chain z c.first c.others c.chain refl (Leads-arc R z c.first c.closes);
        closes = (c.closes, led_back R c.first c.others c.chain c.closes);
      }

-- ---- what a reading declares

-- what a filter keeps is there, and passes
Contains-from_filter : {X : Type 0} (p : X → Bool) (xs : List X) (x : X) → Contains (filter p xs) x
    → Contains xs x × (p x ≡ true)
Contains-from_filter p xs x there = (
  All-contains (Contains xs) (filter p xs) x (All-filter p (Contains xs) xs (All-contains_itself xs)) there,
  All-contains (λ y. p y ≡ true) (filter p xs) x (filter_passes p xs) there,
)

-- a flush that is kept as soon as one place more is kept is at this place
at_place : (place : ℕ) (kept : List ℕ) (t : Target) → is_kept (place ∷ kept) t ≡ true → is_kept kept t ≡ false
    → t.place ≡ place
at_place place kept t more fails = elim (cases_Bool (place == t.place)) [
  | inl same ↦ sym (eqb-true place t.place same)
  | inr other ↦
      let without : (not t.unsure || ((place == t.place) || is_among kept t.place)) ≡ is_kept kept t =
      ap (λ (b : Bool). not t.unsure || (b || is_among kept t.place)) other in
      absurd (true≢false (sym more ∙ without ∙ fails))
]

-- an item declares a flush of another one at this place
abbrev AtPlace : List (List Target) → ℕ → ℕ → ℕ → Type 0
AtPlace waits place i j = Any (λ (t : Target). (t.item ≡ j) × (t.place ≡ place)) (targets_of waits i)

module _ (waits : List (List Target)) (place : ℕ) (kept : List ℕ) (i j : ℕ) where
  abbrev Flushes : List Target → Type 0
  Flushes targets = Any (λ (t : Target). t.item ≡ j) targets

  -- what a reading declares is declared
  waits-declared : (some : List ℕ) → ItemWaits (map (kept_of some) waits) i j → ItemWaits waits i j
  waits-declared some h =
      let here : Flushes (kept_of some (targets_of waits i)) = subst Flushes (targets_of-kept some waits i) h in
      let from = Contains-from_filter (is_kept some) (targets_of waits i) here.1 (here.0, here.2, here.3) in
      (from.0.0, here.1, from.0.1, from.0.2, here.4)

  -- with one place more, it is what was declared before, or at this place
  fewer_or_at : ItemWaits (map (kept_of (place ∷ kept)) waits) i j
      → ItemWaits (map (kept_of kept) waits) i j ⊎ AtPlace waits place i j
  fewer_or_at h =
      let ts : List Target = targets_of waits i in
      let more : List ℕ = place ∷ kept in
      let here : Flushes (kept_of more ts) = subst Flushes (targets_of-kept more waits i) h in
      let t : Target = here.1 in
      let from = Contains-from_filter (is_kept more) ts t (here.0, here.2, here.3) in
      elim (cases_Bool (is_kept kept t)) [
        | inl passes ↦
            let there = Contains-filtered (is_kept kept) ts t passes from.0 in
            let some : Flushes (kept_of kept ts) = (there.0, t, there.1, there.2, here.4) in
            inl (subst Flushes (sym (targets_of-kept kept waits i)) some)
        | inr fails ↦ inr (from.0.0, t, from.0.1, from.0.2, (here.4, at_place place kept t from.1 fails))
      ]

-- what declares more waits for all that the other waits for
waits-more : (v w : Wiring) → DeclaresMore v w → (i j : ℕ) → ItemWaits v.waits i j → ItemWaits w.waits i j
waits-more v w h i j waits =
    let t : Target = waits.1 in
    let by = h.more t.whole i j (waits.0, t, waits.2, waits.3, (waits.4, refl)) in
    (by.0, by.1, by.2, by.3, by.4.0)

-- more waits of workqueues that have a rescuer
rescued-more : (u : Wiring) (xs ys : List (List Target)) → ((i j : ℕ) → ItemWaits xs i j → ItemWaits ys i j)
    → (p q : ℕ) → RescuedWaits (record u { waits = xs }) p q → RescuedWaits (record u { waits = ys }) p q
rescued-more u xs ys keeps p q waits =
    let lanes = waits.2 in (
      waits.0,
      waits.1,
      record {
        item = lanes.item;
        target = lanes.target;
        declares = keeps lanes.item lanes.target lanes.declares;
        of_item = lanes.of_item;
        of_target = lanes.of_target;
      },
    )

-- ---- no difference

module _ (d : Declaration) (ws : Workqueues) (declaration : IsDeclaration d)
    (assignment : IsAssignment d.groups ws.assignment) (components : List (List WaitArc))
    (are : AreComponents d ws components) (place : ℕ) (kept : List ℕ)
    (unprinted : is_among (map (λ (b : WaitArc). b.place) (flat_map (λ arcs. arcs) components ++ bare_waits d ws)) place
    ≡ false) where
  abbrev a : Assignment
  a = ws.assignment

  abbrev w : Wiring
  w = wiring_of d ws

  abbrev less : Wiring
  less = reading w kept

  abbrev more : Wiring
  more = reading w (place ∷ kept)

  -- the two readings, as declarations of their own
  abbrev d1 : Declaration
  d1 = reading_declared d kept

  abbrev d2 : Declaration
  d2 = reading_declared d (place ∷ kept)

  declares1 : IsDeclaration d1
  declares1 = IsDeclaration-reading d kept declaration

  declares2 : IsDeclaration d2
  declares2 = IsDeclaration-reading d (place ∷ kept) declaration

  same1 : SameButPlaces (wiring_of d1 ws) less
  same1 = SameButPlaces-compact d ws kept

  same2 : SameButPlaces (wiring_of d2 ws) more
  same2 = SameButPlaces-compact d ws (place ∷ kept)

  -- ---- what is printed isn't at the place

  abbrev printed : List WaitArc
  printed = flat_map (λ arcs. arcs) components ++ bare_waits d ws

  none_printed : (b : WaitArc) → Contains printed b → b.place ≡ place → ⊥
  none_printed b there same =
      let places : List ℕ = map (λ (x : WaitArc). x.place) printed in
      let at = Contains-map (λ (x : WaitArc). x.place) printed b there in
      let is : is_among places place ≡ true =
      list_any_at (λ (p : ℕ). p == place) places at.0 b.place at.1
      (eq-eqb (get_or places at.0 b.place) place (at.2 ∙ same)) in
      true≢false (sym is ∙ unprinted)

  not_in : (b : WaitArc) → b.place ≡ place → IsInComponents components b → ⊥
  not_in b same (k, arcs, within, at, (m, x, inside, is, flush)) =
      none_printed x
      (Contains-append_left (flat_map (λ arcs. arcs) components) (bare_waits d ws) x
      (Contains-flat_map (λ (l : List WaitArc). l) components arcs x (k, within, at) (m, inside, is)))
      (flush.2 ∙ same)

  not_bare : (b : WaitArc) → b.place ≡ place → HasFlush b (bare_waits d ws) → ⊥
  not_bare b same (m, x, inside, is, flush) =
      none_printed x
      (Contains-append_right (flat_map (λ arcs. arcs) components) (bare_waits d ws) x (m, inside, is)) (flush.2 ∙ same)

  -- ---- circles

  on_lane : (i p : ℕ) → slice_get (item_lanes a d.group_of) i ≡ Some p → item_lane a d.group_of i ≡ p
  on_lane i p is =
      let within : i < length d.group_of =
      omega (
        arith,
        slice_get_within (item_lanes a d.group_of) i p is,
        length-map d.group_of (group_lane a),
      ) in
      sym (item_lanes-at a d.group_of i within) ∙ get_or_from_slice_get (item_lanes a d.group_of) i p 0 is

  -- a wait that leads back isn't by a flush at the place
  back_without : (p q : ℕ) → Returns (RescuedWaits more) p q → RescuedWaits less p q
  back_without p q (waits, back) =
      let lanes = waits.2 in
      elim (fewer_or_at d.waits place kept lanes.item lanes.target lanes.declares) [
        | inl fewer ↦ (
          waits.0,
          waits.1,
          record {
            item = lanes.item;
            target = lanes.target;
            declares = fewer;
            of_item = lanes.of_item;
            of_target = lanes.of_target;
          },
        )
        | inr at ↦
            let t : Target = at.1 in
            let b : WaitArc = arc_of d.group_of lanes.item t in
            let flush : IsDeclaredFlush d.waits b = (at.0, t, at.2, at.3, (refl, refl)) in
            let src : item_lane a d.group_of b.src ≡ p = on_lane lanes.item p lanes.of_item in
            let dst : item_lane a d.group_of b.dst ≡ q =
            ap (item_lane a d.group_of) at.4.0 ∙ on_lane lanes.target q lanes.of_target in
            let all = Leads-keeps (RescuedWaits more) (RescuedWaits w)
            (rescued-more w more.waits d.waits (λ i j. waits-declared d.waits place kept i j (place ∷ kept))) q p back
            in
            let from = subst (λ (x : ℕ). Leads (RescuedWaits w) x p) (sym dst) all in
            let leads = subst (λ (x : ℕ). Leads (RescuedWaits w) (item_lane a d.group_of b.dst) x) (sym src) from in
            absurd (not_in b at.4.1 ((lie d a ws.bare declaration assignment components are b flush).1 leads))
      ]

  -- so a circle of the reading with more is one of the reading with less
  circle_without : Circle (RescuedWaits more) → Circle (RescuedWaits less)
  circle_without circle =
      Circle-map (Returns (RescuedWaits more)) (RescuedWaits less) (λ v. v) back_without
      (Circle-returns (RescuedWaits more) circle)

  -- ---- the reading with less is safe

  module _ (safe : IsSafe less) where
    safe1 : IsSafe (wiring_of d1 ws)
    safe1 = IsSafe-fewer (wiring_of d1 ws) less (DeclaresMore-same (wiring_of d1 ws) less same1) safe

    no_deadlock : Deadlocks (wiring_of d1 ws) → ⊥
    no_deadlock deadlocks = not_safe-deadlocks (wiring_of d1 ws) deadlocks safe1

    -- what the reading with less declares, as a declaration of its own
    fewer1 : (i j : ℕ) → ItemWaits less.waits i j → ItemWaits d1.waits i j
    fewer1 =
        waits-more less (wiring_of d1 ws)
        (DeclaresMore-same less (wiring_of d1 ws) (SameButPlaces-sym (wiring_of d1 ws) less same1))

    more2 : (i j : ℕ) → ItemWaits d2.waits i j → ItemWaits more.waits i j
    more2 = waits-more (wiring_of d2 ws) more (DeclaresMore-same (wiring_of d2 ws) more same2)

    no_circle : Circle (RescuedWaits more) → ⊥
    no_circle circle =
        no_deadlock
        (Deadlocks-rescued_circle (wiring_of d1 ws) (IsWiring-workqueues d1 ws declares1 assignment)
        (Circle-map (RescuedWaits less) (RescuedWaits (wiring_of d1 ws)) (λ v. v)
        (rescued-more w less.waits d1.waits fewer1) (circle_without circle)))

    -- no flush of the reading with less leads to a workqueue without a rescuer
    none_bare1 : (i j : ℕ) → ItemWaits d1.waits i j → HasRescuer w (item_lane a d.group_of i)
        → (¬ HasRescuer w (item_lane a d.group_of j)) → ⊥
    none_bare1 i j waits rescued bare =
        let t : Target = waits.1 in
        let b : WaitArc = arc_of d.group_of i t in
        let flush : IsDeclaredFlush d1.waits b = (waits.0, t, waits.2, waits.3, (refl, refl)) in
        let to : ¬ HasRescuer w (item_lane a d.group_of b.dst) =
        subst (λ (x : ℕ). ¬ HasRescuer w (item_lane a d.group_of x)) (sym waits.4) bare in
        let has = ((AreForBare-waits d1 ws declares1 assignment).lie b flush).1 (rescued, to) in
        no_deadlock (Deadlocks-bare d1 ws declares1 assignment (bare_waits d1 ws) refl (omega (arith, has.2)))

    -- nor one of the reading with more
    none_bare2 : (x : WaitArc) → Contains (bare_waits d2 ws) x → ⊥
    none_bare2 x there =
        let arc = (IsArc-bare_waits d2 ws declares2 assignment x there).0 in
        let flush : IsDeclaredFlush d2.waits x = arc.declared in
        let has : HasFlush x (bare_waits d2 ws) = (there.0, x, there.1, there.2, (refl, refl, refl)) in
        let ends = ((AreForBare-waits d2 ws declares2 assignment).lie x flush).0 has in
        let waits : ItemWaits d2.waits x.src x.dst = (flush.0, flush.1, flush.2, flush.3, flush.4.0) in
        elim (fewer_or_at d.waits place kept x.src x.dst (more2 x.src x.dst waits)) [
          | inl fewer ↦ none_bare1 x.src x.dst (fewer1 x.src x.dst fewer) ends.0 ends.1
          | inr at ↦
              let t : Target = at.1 in
              let b : WaitArc = arc_of d.group_of x.src t in
              let of_b : IsDeclaredFlush d.waits b = (at.0, t, at.2, at.3, (refl, refl)) in
              let to : ¬ HasRescuer w (item_lane a d.group_of b.dst) =
              subst (λ (y : ℕ). ¬ HasRescuer w (item_lane a d.group_of y)) (sym at.4.0) ends.1 in
              not_bare b at.4.1 (((AreForBare-waits d ws declaration assignment).lie b of_b).1 (ends.0, to))
        ]

    bare2 : (waits : List WaitArc) → waits ≡ bare_waits d2 ws → bare_waits d2 ws ≡ []
    bare2 [] is = sym is
    bare2 (x ∷ waits) is =
        absurd (none_bare2 x (subst (λ (l : List WaitArc). Contains l x) is (0, omega arith, refl)))

    safe_more : a.lanes ≤ 4096 → IsSafe more
    safe_more few =
        let sound = IsGraph-kept_graph d2 a ws.bare declares2 assignment few in
        elim (AreRanks-or_walk (kept_graph d2 a ws.bare) sound) [
          | inl ranks ↦
              IsSafe-fewer more (wiring_of d2 ws)
              (DeclaresMore-same more (wiring_of d2 ws) (SameButPlaces-sym (wiring_of d2 ws) more same2))
              (AreSafe-ranks d2 ws declares2 assignment few (bare2 (bare_waits d2 ws) refl) ranks.0 ranks.1).safe
          | inr walk ↦
              let circle = (HasCircle-walked (kept_graph d2 a ws.bare) sound walk.0 walk.1).0 in
              let waits = Circle-map (HasArc (kept_graph d2 a ws.bare)) (RescuedWaits (wiring_of d2 ws)) (λ v. v)
              (λ p q arc. (VertexWaits-kept_graph d2 a ws.bare declares2 assignment p q).1 arc) circle in
              absurd (no_circle
              (Circle-map (RescuedWaits (wiring_of d2 ws)) (RescuedWaits more) (λ v. v)
              (rescued-more w d2.waits more.waits more2) waits))
        ]

  -- a reading that differs in this flush alone is safe exactly if the other one is
  pub no_difference : a.lanes ≤ 4096 → IsSafe less ↔ IsSafe more
  no_difference few = (
    λ safe. safe_more safe few,
    λ safe.
        IsSafe-fewer less more
        (DeclaresMore-reading w kept (place ∷ kept) (λ p among. or_right (place == p) (is_among kept p) among)) safe,
  )
