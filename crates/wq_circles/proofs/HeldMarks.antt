-- Which workqueues are led to, and which can be held up: what two searches mark.
use Rattle.std.proofs.Common.{◌≡◌, ℕ, ◌<◌, ◌≤◌, ◌⊎◌, inl, inr, Bool, true, false, not, List, [], ◌∷◌, ◌++◌}
use Rattle.std.proofs.Common.{◌+◌, length, map, take, get_or, refl, sym, ap, subst, ◌∙◌, arith}
use Rattle.std.proofs.lemmas.List.{map_push}
use Rattle.std.specs.Prelude.{Contains, filter, flat_map}
use Rattle.std.specs.List.{All}
use Rattle.std.proofs.lemmas.List.Elements.{All-contains, All-contains_itself, All-filter, filter_passes}
use Rattle.std.proofs.lemmas.List.Elements.{Contains-append_left, Contains-append_right, Contains-append_cases}
use Rattle.wq_items.proofs.Lists.{Contains-filtered, Contains-later}
use Rattle.wq_groups.specs.Declaration.{Declaration, IsDeclaration}
use Rattle.wq_groups.specs.Assignment.{IsAssignment, item_lane}
use Rattle.wq_graph.specs.declared.arc.WaitArc.{WaitArc}
use Rattle.wq_graph.specs.Graph.{HasArc}
use Rattle.wq_graph.proofs.ListLemmas.{Contains-map, Contains-from_map}
use Rattle.wq_core.specs.Wiring.{Wiring, HasRescuer, RescuedWaits}
use Rattle.wq_core.specs.Workqueues.{Workqueues, wiring_of}
use Rattle.wq_deadlock.specs.Judging.{bare_waits, is_on_bare}
use Rattle.wq_circles.specs.Components.{AreComponents, kept_graph}
use Rattle.wq_circles.specs.Flushes.{IsInComponents, IsDeclaredFlush}
use Rattle.wq_circles.specs.Leading.{Leads}
use Rattle.wq_circles.specs.Lists.{AreTurned, Next, head_lists}
use Rattle.wq_circles.specs.Searching.{Search}
use Rattle.wq_circles.specs.Held.{AreMarksOf, BeginsOn, CanBeHeld, FindsAll, IsLedTo, IsReached, beginnings}
use Rattle.wq_circles.proofs.ForBare.{AreForBare-waits}
use Rattle.wq_circles.proofs.HeldLists.{filter-passed, filter-pushed}
use Rattle.wq_circles.proofs.HeldSearch.{marked-reached, marks-count, none_found}
use Rattle.wq_circles.proofs.KeptLanes.{IsGraph-kept_graph, Leads-first, Leads-last, VertexWaits-kept_graph}
use Rattle.wq_circles.proofs.OnCircles.{Leads-keeps}
use Rattle.wq_circles.proofs.Promised.{lie}
use Rattle.wq_circles.proofs.Safe.{flushes}
use Rattle.wq_circles.proofs.Turned.{HasArc-heads, HasArc-tails, Leads-turned, Next-heads, Next-tails}

-- what a filter keeps is there, and passes
pub Contains-kept : {X : Type 0} (p : X → Bool) (xs : List X) (x : X) → Contains (filter p xs) x
    → Contains xs x × (p x ≡ true)
Contains-kept p xs x there = (
  All-contains (Contains xs) (filter p xs) x (All-filter p (Contains xs) xs (All-contains_itself xs)) there,
  All-contains (λ y. p y ≡ true) (filter p xs) x (filter_passes p xs) there,
)

-- what is in one of the lists is in one list
pub Contains-in_one : {X : Type 0} (lists : List (List X)) (x : X) → Contains (flat_map (λ l. l) lists) x
    → (l : List X) × Contains lists l × Contains l x
Contains-in_one [] x there = absurd (omega (arith, there.1))
Contains-in_one (l ∷ lists) x there = elim (Contains-append_cases l (flat_map (λ m. m) lists) x there) [
  | inl here ↦ (l, (0, omega arith, refl), here)
  | inr later ↦
      let rest = Contains-in_one lists x later in
      (rest.0, Contains-later l lists rest.0 rest.1, rest.2)
]

-- a test that fails, turned round, holds
not_true : (b : Bool) → not b ≡ true → b ≡ false
not_true true is = absurd (let never : false ≡ true = is in cc)
not_true false is = refl

-- the workqueues of these items that have a rescuer
abbrev pub rescued_lanes : Declaration → Workqueues → List ℕ → List ℕ
rescued_lanes d ws named =
    map (item_lane ws.assignment d.group_of) (filter (λ (i : ℕ). not (is_on_bare ws d.group_of i)) named)

-- one item more: its workqueue comes last, if it has a rescuer
module _ (d : Declaration) (ws : Workqueues) (named : List ℕ) (k i : ℕ) (within : k < length named)
    (is : i ≡ get_or named k i) where
  abbrev has_rescuer : ℕ → Bool
  has_rescuer j = not (is_on_bare ws d.group_of j)

  abbrev before : List ℕ
  before = filter has_rescuer (take k named)

  pub rescued-pushed : is_on_bare ws d.group_of i ≡ false → rescued_lanes d ws (take (k + 1) named)
      ≡ rescued_lanes d ws (take k named) ++ (item_lane ws.assignment d.group_of i ∷ [])
  rescued-pushed rescued =
      ap (map (item_lane ws.assignment d.group_of))
      (sym (filter-pushed has_rescuer named k i before within is refl (before ++ (i ∷ [])) refl (ap not rescued)))
      ∙ map_push (item_lane ws.assignment d.group_of) before i

  pub rescued-passed : is_on_bare ws d.group_of i ≡ true
      → rescued_lanes d ws (take (k + 1) named) ≡ rescued_lanes d ws (take k named)
  rescued-passed bare =
      ap (map (item_lane ws.assignment d.group_of))
      (sym (filter-passed has_rescuer named k i before within is refl (ap not bare)))

module _ (d : Declaration) (ws : Workqueues) (declaration : IsDeclaration d)
    (assignment : IsAssignment d.groups ws.assignment) where
  abbrev w : Wiring
  w = wiring_of d ws

  abbrev graph : List (List WaitArc)
  graph = kept_graph d ws.assignment ws.bare

  abbrev R : ℕ → ℕ → Type 0
  R = RescuedWaits w

  abbrev lane : ℕ → ℕ
  lane i = item_lane ws.assignment d.group_of i

  forth : (p q : ℕ) → HasArc graph p q → R p q
  forth p q arc = (VertexWaits-kept_graph d ws.assignment ws.bare declaration assignment p q).1 arc

  back : (p q : ℕ) → R p q → HasArc graph p q
  back p q waits = (VertexWaits-kept_graph d ws.assignment ws.bare declaration assignment p q).0 waits

  -- what leads, and to where, has a rescuer
  pub rescued-first : (p q : ℕ) → Leads R p q → HasRescuer w p
  rescued-first p q leads =
      Leads-first d ws.assignment ws.bare declaration assignment p q (Leads-keeps R (HasArc graph) back p q leads)

  pub rescued-last : (p q : ℕ) → Leads R p q → HasRescuer w q
  rescued-last p q leads =
      Leads-last d ws.assignment ws.bare declaration assignment p q (Leads-keeps R (HasArc graph) back p q leads)

  -- ---- what is led to

  led : (named : List ℕ) (q : ℕ) → IsReached (head_lists graph) (rescued_lanes d ws named) q → IsLedTo d ws named q
  led named q (v, has, by) =
      let from = Contains-from_map lane (filter (λ (i : ℕ). not (is_on_bare ws d.group_of i)) named) v has in
      let there = Contains-kept (λ (i : ℕ). not (is_on_bare ws d.group_of i)) named from.0 from.1 in
      let rescued : HasRescuer w (lane from.0) = not_true (is_on_bare ws d.group_of from.0) there.1 in
      elim by [
        | inl same ↦
            let at : lane from.0 ≡ q = from.2 ∙ sym same in
            (subst (HasRescuer w) at rescued, (from.0, there.0, rescued, inl at))
        | inr leads ↦
            let by_waits : Leads R v q =
            Leads-keeps (Next (head_lists graph)) R (λ x y next. forth x y (HasArc-heads graph x y next)) v q leads in (
              rescued-last v q by_waits,
              (from.0, there.0, rescued, inr (subst (λ (x : ℕ). Leads R x q) (sym from.2) by_waits)),
            )
      ]

  reached : (named : List ℕ) (q : ℕ) → IsLedTo d ws named q → IsReached (head_lists graph) (rescued_lanes d ws named) q
  reached named q (rescuer, (i, has, rescued, by)) = (
    lane i,
    Contains-map lane (filter (λ (j : ℕ). not (is_on_bare ws d.group_of j)) named) i
        (Contains-filtered (λ (j : ℕ). not (is_on_bare ws d.group_of j)) named i (ap not rescued) has),
    elim by [
      | inl same ↦ inl (sym same)
      | inr leads ↦
          inr (Leads-keeps R (Next (head_lists graph)) (λ x y waits. Next-heads graph x y (back x y waits)) (lane i) q
          leads)
    ],
  )

  pub AreMarksOf-led : (named : List ℕ) (n : ℕ) (t : Search) → n ≡ ws.assignment.lanes
      → FindsAll (head_lists graph) (none_found n) (rescued_lanes d ws named) t
      → AreMarksOf d ws (IsLedTo d ws named) t.marks
  AreMarksOf-led named n t all finds = record {
    one_each = marks-count (head_lists graph) n (rescued_lanes d ws named) t finds ∙ all;
    marked = λ q below.
        let is = marked-reached (head_lists graph) n (rescued_lanes d ws named) t finds q (omega (arith, below, all)) in
        (λ marked. led named q (is.0 marked), λ led_to. is.1 (reached named q led_to));
  }

  -- ---- what can be held up

  module _ (few : ws.assignment.lanes ≤ 4096) (components : List (List WaitArc))
      (are : AreComponents d ws components) (tails : List (List ℕ)) (turned : AreTurned (head_lists graph) tails) where
    -- where a flush of a component begins has a rescuer
    rescued-component : (a : WaitArc) → Contains (flat_map (λ arcs. arcs) components) a → HasRescuer w (lane a.src)
    rescued-component a there =
        let one = Contains-in_one components a there in
        let flush : IsDeclaredFlush d.waits a =
        All-contains (IsDeclaredFlush d.waits) one.0 a
        (All-contains (All (IsDeclaredFlush d.waits)) components one.0
        (flushes d ws.assignment ws.bare declaration assignment components are) one.1) one.2 in
        let is_in : IsInComponents components a =
        (one.1.0, one.0, one.1.1, one.1.2, (one.2.0, a, one.2.1, one.2.2, (refl, refl, refl))) in
        rescued-last (lane a.dst) (lane a.src)
        ((lie d ws.assignment ws.bare declaration assignment components are a flush).0 is_in)

    -- and where one to a workqueue without a rescuer begins
    rescued-bare : (a : WaitArc) → Contains (bare_waits d ws) a → HasRescuer w (lane a.src)
    rescued-bare a there =
        let for_bare = AreForBare-waits d ws declaration assignment in
        let flush = All-contains (IsDeclaredFlush d.waits) (bare_waits d ws) a for_bare.declared there in
        ((for_bare.lie a flush).0 (there.0, a, there.1, there.2, (refl, refl, refl))).0

    abbrev starts : List ℕ
    starts = beginnings d ws (flat_map (λ arcs. arcs) components) ++ beginnings d ws (bare_waits d ws)

    -- where one of these flushes begins
    begins : (arcs : List WaitArc) (p : ℕ) → Contains (beginnings d ws arcs) p → BeginsOn d ws arcs p
    begins arcs p has =
        let from = Contains-from_map (λ (a : WaitArc). lane a.src) arcs p has in
        (from.1.0, from.0, from.1.1, from.1.2, from.2)

    begun : (arcs : List WaitArc) (p : ℕ) → BeginsOn d ws arcs p → Contains (beginnings d ws arcs) p
    begun arcs p (k, a, within, is, on) =
        subst (Contains (beginnings d ws arcs)) on
        (Contains-map (λ (b : WaitArc). lane b.src) arcs a (k, within, is))

    some_begins : (p : ℕ) → Contains starts p
        → BeginsOn d ws (flat_map (λ arcs. arcs) components) p ⊎ BeginsOn d ws (bare_waits d ws) p
    some_begins p has = elim (Contains-append_cases (beginnings d ws (flat_map (λ arcs. arcs) components))
        (beginnings d ws (bare_waits d ws)) p has) [
          | inl one ↦ inl (begins (flat_map (λ arcs. arcs) components) p one)
          | inr one ↦ inr (begins (bare_waits d ws) p one)
        ]

    rescued : (p : ℕ) → (BeginsOn d ws (flat_map (λ arcs. arcs) components) p ⊎ BeginsOn d ws (bare_waits d ws) p)
        → HasRescuer w p
    rescued p (inl (k, a, within, is, on)) = subst (HasRescuer w) on (rescued-component a (k, within, is))
    rescued p (inr (k, a, within, is, on)) = subst (HasRescuer w) on (rescued-bare a (k, within, is))

    held : (q : ℕ) → IsReached tails starts q → CanBeHeld d ws components q
    held q (v, has, by) =
        let begin = some_begins v has in
        elim by [
          | inl same ↦
              (subst (HasRescuer w) (sym same) (rescued v begin), (v, inl same, begin))
          | inr leads ↦
              let waits : Leads R q v =
              Leads-turned (Next tails) R (λ x y next. forth y x (HasArc-tails graph tails turned x y next)) v q leads
              in
              (rescued-first q v waits, (v, inr waits, begin))
        ]

    tails_of : (x y : ℕ) → R x y → Next tails y x
    tails_of x y waits =
        Next-tails graph tails (IsGraph-kept_graph d ws.assignment ws.bare declaration assignment few) turned x y
        (back x y waits)

    reached-held : (q : ℕ) → CanBeHeld d ws components q → IsReached tails starts q
    reached-held q (rescuer, (p, leads, begin)) = (
      p,
      elim begin [
        | inl one ↦ Contains-append_left (beginnings d ws (flat_map (λ arcs. arcs) components))
            (beginnings d ws (bare_waits d ws)) p (begun (flat_map (λ arcs. arcs) components) p one)
        | inr one ↦ Contains-append_right (beginnings d ws (flat_map (λ arcs. arcs) components))
            (beginnings d ws (bare_waits d ws)) p (begun (bare_waits d ws) p one)
      ],
      elim leads [
        | inl same ↦ inl same
        | inr by ↦ inr (Leads-turned R (Next tails) tails_of q p by)
      ],
    )

    pub AreMarksOf-held : (n : ℕ) (t : Search) → n ≡ ws.assignment.lanes → FindsAll tails (none_found n) starts t
        → AreMarksOf d ws (CanBeHeld d ws components) t.marks
    AreMarksOf-held n t all finds = record {
      one_each = marks-count tails n starts t finds ∙ all;
      marked = λ q below.
          let is = marked-reached tails n starts t finds q (omega (arith, below, all)) in
          (λ marked. held q (is.0 marked), λ can. is.1 (reached-held q can));
    }
