-- The run of a walk for an item, if the walk meets no lane twice, ends stuck for it.
use Rattle.std.proofs.Common.{◌≡◌, ◌≢◌, ℕ, zero, suc, ◌<◌, ◌⊎◌, inl, inr, Bool, true, false, List, [], ◌∷◌, ◌++◌}
use Rattle.std.proofs.Common.{length, map, refl, sym, ap, subst, ◌∙◌, arith}
use Rattle.std.specs.Prelude.{Contains, flat_map, slice_index_or, if◌then◌else◌, ◌==◌}
use Rattle.std.specs.List.{All}
use Rattle.std.proofs.lemmas.Bool.{eqb-true}
use Rattle.std.proofs.lemmas.List.Elements.{All-nil, All-cons, All-append}
use Rattle.wq_core.specs.declared.step.Step.{Step}
use Rattle.wq_core.specs.declared.step.Step.TheVariants.{Queue}
use Rattle.wq_core.specs.Wiring.{Wiring, IsWiring, HasRescuer, with_helpers, items, lane_of, declared_by}
use Rattle.wq_core.proofs.Wirings.{cases_rescuer, IsWiring-with_helpers}
use Rattle.wq_hang.specs.declared.hop.Hop.{Hop}
use Rattle.wq_hang.specs.Shortest.{NeedsWorker}
use Rattle.wq_hang.specs.Walk.{IsHop, target_beside, moves_of, run_of_walk}
use Rattle.wq_hang.specs.WalkFor.{IsWalkFor, once, named_beside, pending_beside, pending_for}
use Rattle.wq_hang.specs.ShortestFor.{EndsStuckFor}
use Rattle.wq_hang.proofs.Apart.{Avoids, Apart, In, Avoids-from, Apart-append, In-append_left, In-append_right}
use Rattle.wq_hang.proofs.Once.{once-In, In-once, Apart-once}
use Rattle.wq_hang.proofs.Declared.{declared-item, declared-target, beside_cases}
use Rattle.wq_hang.proofs.LeastWalks.{lanes_from}
use Rattle.wq_hang.proofs.WalkRuns.{items_of, queued, lane_In, In_item, In-append, HoldUp, IsRun-walk, IsStuckFor-walk}
use Rattle.wq_hang.proofs.Shortest.{All-from_In, path_hop, path_next, path_first, items_apart, one_on_lane}
use Rattle.wq_hang.proofs.Shortest.{HoldUp-helped, alone-queued, alone-moves}
use Rattle.wq_hang.proofs.CutWalks.{LeadsFrom, leads_from, pending_target}
use Rattle.wq_hang.proofs.StuckWalks.{named_is, target_is, pending_rescued, pending_hop}

-- ---- what is pending

-- the target on a bare lane is
pending_bare : (w : Wiring) (h : Hop) → (¬ HasRescuer w (lane_of w h.flush.item)) → In h.flush.item (pending_beside w h)
pending_bare w h bare = by (slice_index_or w.bare (lane_of w h.flush.item) false) refl
  where
    by : (b : Bool) → slice_index_or w.bare (lane_of w h.flush.item) false ≡ b
        → In h.flush.item (if b then h.flush.item ∷ [] else target_beside h)
    by true is = inl refl
    by false is = absurd (bare is)

flat_In : {X : Type 0} (f : X → List ℕ) (i : ℕ) (xs : List X) (x : X) → Contains xs x → In i (f x)
    → In i (flat_map f xs)
flat_In f i [] x (k, lt, at) here = absurd (omega arith)
flat_In {X} f i (y ∷ ys) x (zero, lt, at) here =
    In-append_left i (f y) (flat_map f ys) (subst (λ (z : X). In i (f z)) (sym at) here)
flat_In {X} f i (y ∷ ys) x (suc k, lt, at) here =
    In-append_right i (f y) (flat_map f ys) (flat_In f i ys x (k, omega arith, at) here)

-- x is queued, since it waits first or is pending
queued-named : (w : Wiring) (x : ℕ) (hops : List Hop) → In x (queued hops (pending_for w x hops))
queued-named w x [] = inl refl
queued-named w x (h ∷ hops) = by (h.item == x) refl
  where
    all : List ℕ
    all = flat_map (pending_beside w) (h ∷ hops)

    by : (b : Bool) → (h.item == x) ≡ b
        → In x (queued (h ∷ hops) (once ((if b then [] else x ∷ []) ++ all)))
    by true is = inl (sym (eqb-true h.item x is))
    by false is = In-append_right x (items_of (h ∷ hops)) (once (x ∷ all)) (inl refl)

-- ---- a walk holds up

module _ (w : Wiring) (wiring : IsWiring w) (x : ℕ) (item : x < items w) (hops : List Hop)
    (apart : Apart (lanes_from w hops)) (leads : LeadsFrom w x hops) where
  abbrev named : List ℕ
  named = named_beside x hops

  abbrev targets : List ℕ
  targets = flat_map (pending_beside w) hops

  is_hop : (h : Hop) → Contains hops h → IsHop w h × (lane_of w h.next ≡ lane_of w h.flush.item)
  is_hop h there = path_hop w leads.first leads.end hops leads.path h there

  -- on a lane that has a rescuer the next item waits
  next_waits : (h : Hop) → Contains hops h → HasRescuer w (lane_of w h.flush.item) → In h.next (items_of hops)
  next_waits h there rescuer = elim (path_next w leads.first leads.end hops leads.path h there) [
    | inl found ↦ found
    | inr end ↦ elim leads.to [
      | inl at_end ↦ subst (λ (i : ℕ). In i (items_of hops)) (sym end) at_end
      | inr bare ↦ absurd (bare (subst (HasRescuer w) (sym (is_hop h there).1 ∙ ap (lane_of w) end) rescuer))
    ]
  ]

  first_waits : In leads.first (items_of hops)
  first_waits = path_first w leads.first leads.end hops leads.path leads.some

  lane_waits : (i : ℕ) → In i (items_of hops) → In (lane_of w i) (lanes_from w hops)
  lane_waits i there =
      let found = In_item hops i there in
      subst (λ (j : ℕ). In (lane_of w j) (lanes_from w hops)) found.2 (lane_In w hops found.0 found.1)

  -- x, or the target of a hop on a lane that has a rescuer, or of one on a bare lane
  record IsTarget (i : ℕ) : Type 0 where
    hop : Hop
    there : Contains hops hop
    is : i ≡ hop.flush.item
    kind : (HasRescuer w (lane_of w hop.flush.item) × (hop.flush.item ≢ hop.next))
        ⊎ (¬ HasRescuer w (lane_of w hop.flush.item))

  beside_is : (i : ℕ) → In i (pending_for w x hops) → ((i ≡ x) × (leads.first ≢ x)) ⊎ IsTarget i
  beside_is i there = elim (In-append i named targets (In-once i (named ++ targets) there)) [
    | inl here ↦ inl (named_is w x leads.first leads.end hops leads.path leads.some i here)
    | inr later ↦ (
        let h = pending_hop w hops i later in
        inr (by h.0 h.1 h.2 (cases_rescuer w (lane_of w h.0.flush.item)))
        )
  ]
    where
      by : (h : Hop) → Contains hops h → In i (pending_beside w h)
          → HasRescuer w (lane_of w h.flush.item) ⊎ (¬ HasRescuer w (lane_of w h.flush.item)) → IsTarget i
      by h at here (inl rescuer) =
          let target = target_is h i (subst (λ (l : List ℕ). In i l) (pending_rescued w h rescuer) here) in
          record { hop = h; there = at; is = target.1; kind = inl (rescuer, target.2) }
      by h at here (inr bare) =
          record { hop = h; there = at; is = pending_target w h i here; kind = inr bare }

  target_beside_In : (h : Hop) → Contains hops h → In h.flush.item (pending_beside w h)
      → In h.flush.item (queued hops (pending_for w x hops))
  target_beside_In h there here =
      In-append_right h.flush.item (items_of hops) (pending_for w x hops)
      (once-In h.flush.item (named ++ targets) (In-append_right h.flush.item named targets
      (flat_In (pending_beside w) h.flush.item hops h there here)))

  holder : (h : Hop) → Contains hops h → (i : ℕ) × In i (queued hops (pending_for w x hops))
      × (lane_of w i ≡ lane_of w h.flush.item)
      × (h.flush.whole ≡ false → i ≡ h.flush.item)
  holder h there = by (cases_rescuer w (lane_of w h.flush.item)) (beside_cases h)
    where
      by : HasRescuer w (lane_of w h.flush.item) ⊎ (¬ HasRescuer w (lane_of w h.flush.item))
          → ((target_beside h ≡ []) × (h.flush.whole ≡ false → h.flush.item ≡ h.next))
          ⊎ ((target_beside h ≡ h.flush.item ∷ []) × (h.flush.item ≢ h.next))
          → (i : ℕ) × In i (queued hops (pending_for w x hops)) × (lane_of w i ≡ lane_of w h.flush.item)
          × (h.flush.whole ≡ false → i ≡ h.flush.item)
      by (inr bare) cases =
          (h.flush.item, target_beside_In h there (pending_bare w h bare), refl, λ kind. refl)
      by (inl rescuer) (inl none) = (
        h.next,
        In-append_left h.next (items_of hops) (pending_for w x hops) (next_waits h there rescuer),
        (is_hop h there).1,
        λ one. sym (none.1 one),
      )
      by (inl rescuer) (inr one) =
          let here : In h.flush.item (pending_beside w h) =
          subst (λ (l : List ℕ). In h.flush.item l) (sym (pending_rescued w h rescuer ∙ one.0)) (inl refl) in
          (h.flush.item, target_beside_In h there here, refl, λ kind. refl)

  -- who waits isn't pending
  waits_not_beside : (i : ℕ) → In i (items_of hops) → ¬ In i (pending_for w x hops)
  waits_not_beside i waits there = elim (beside_is i there) [
    | inl is ↦ is.1 (sym (sym is.0 ∙ one_on_lane w hops apart i leads.first waits first_waits
        (ap (lane_of w) is.0 ∙ sym leads.lane)))
    | inr is ↦ elim is.kind [
      | inl has ↦ (
          let next : In is.hop.next (items_of hops) = next_waits is.hop is.there has.0 in
          let lane : lane_of w i ≡ lane_of w is.hop.next =
          ap (lane_of w) is.is ∙ sym (is_hop is.hop is.there).1 in
          has.1 (sym is.is ∙ one_on_lane w hops apart i is.hop.next waits next lane)
          )
      | inr bare ↦ (
          let h = In_item hops i waits in
          bare (subst (λ (k : ℕ). HasRescuer w (lane_of w k)) (h.2 ∙ is.is) (is_hop h.0 h.1).0.rescuer)
          )
    ]
  ]

  beside_lane : (i : ℕ) → In i (pending_for w x hops)
      → (¬ HasRescuer w (lane_of w i)) ⊎ In (lane_of w i) (lanes_from w hops)
  beside_lane i there = elim (beside_is i there) [
    | inl is ↦ inr (subst (λ (q : ℕ). In q (lanes_from w hops)) (leads.lane ∙ ap (lane_of w) (sym is.0))
        (lane_waits leads.first first_waits))
    | inr is ↦ elim is.kind [
      | inl has ↦ inr (subst (λ (q : ℕ). In q (lanes_from w hops))
          ((is_hop is.hop is.there).1 ∙ ap (lane_of w) (sym is.is))
          (lane_waits is.hop.next (next_waits is.hop is.there has.0)))
      | inr bare ↦ inl (λ rescuer. bare (subst (λ (k : ℕ). HasRescuer w (lane_of w k)) is.is rescuer))
    ]
  ]

  item_below : (i : ℕ) → In i (items_of hops) → i < items w
  item_below i there =
      let h = In_item hops i there in
      subst (λ (j : ℕ). j < items w) h.2 (declared-item w h.0.item h.0.flush (is_hop h.0 h.1).0.declared)

  beside_below : (i : ℕ) → In i (pending_for w x hops) → i < items w
  beside_below i there = elim (beside_is i there) [
    | inl is ↦ subst (λ (j : ℕ). j < items w) (sym is.0) item
    | inr is ↦ subst (λ (j : ℕ). j < items w) (sym is.is)
        (declared-target w is.hop.item is.hop.flush wiring (is_hop is.hop is.there).0.declared)
  ]

  HoldUp-leads : HoldUp w hops (pending_for w x hops)
  HoldUp-leads = record {
    declared = λ h there. (is_hop h there).0.declared;
    rescuer = λ h there. (is_hop h there).0.rescuer;
    apart = apart;
    once = Apart-append (items_of hops) (pending_for w x hops) (items_apart w hops apart)
        (Apart-once (named ++ targets))
        (λ i waits. Avoids-from i (pending_for w x hops) (waits_not_beside i waits));
    below = All-append (λ i. i < items w) (items_of hops) (pending_for w x hops)
        (All-from_In (λ i. i < items w) (items_of hops) item_below)
        (All-from_In (λ i. i < items w) (pending_for w x hops) beside_below);
    holder = holder;
    lanes = beside_lane;
  }

-- no item waits
HoldUp-none : (w : Wiring) (x : ℕ) → x < items w → (¬ HasRescuer w (lane_of w x)) → HoldUp w [] (x ∷ [])
HoldUp-none w x item bare = record {
  declared = λ h there. absurd (omega (arith, there.1));
  rescuer = λ h there. absurd (omega (arith, there.1));
  apart = tt;
  once = (tt, tt);
  below = All-cons (λ i. i < items w) x [] item (All-nil (λ i. i < items w));
  holder = λ h there. absurd (omega (arith, there.1));
  lanes = λ i there. inl (λ rescuer. bare (subst (λ (k : ℕ). HasRescuer w (lane_of w k)) (only i there) rescuer));
}
  where
    only : (i : ℕ) → In i (x ∷ []) → i ≡ x
    only i (inl same) = same
    only i (inr none) = absurd none

HoldUp-for : (w : Wiring) (named : List ℕ) (x : ℕ) (hops : List Hop) → IsWiring w → IsWalkFor w named x hops
    → Apart (lanes_from w hops) → HoldUp w hops (pending_for w x hops)
HoldUp-for w names x hops wiring walk apart = elim (leads_from w x hops walk.holds_up) [
  | inl none ↦ subst (λ (l : List Hop). HoldUp w l (pending_for w x l)) (sym none.0)
      (HoldUp-none w x walk.item none.1)
  | inr leads ↦ HoldUp-leads w wiring x walk.item hops apart leads
]

pub walk_for_hangs : (w : Wiring) (named : List ℕ) (x : ℕ) (hops : List Hop) → IsWiring w → IsWalkFor w named x hops
    → Apart (lanes_from w hops) → (n : ℕ)
    → EndsStuckFor w named n (run_of_walk w hops (pending_for w x hops))
walk_for_hangs w names x hops wiring walk apart n =
    let v : Wiring = with_helpers w n in
    let beside : List ℕ = pending_for w x hops in
    let helped : HoldUp v hops beside =
    HoldUp-helped w n hops beside (HoldUp-for w names x hops wiring walk apart) in
    let sound : IsWiring v = IsWiring-with_helpers w n wiring in (
      IsRun-walk v hops beside sound helped,
      IsStuckFor-walk v hops beside sound helped names x walk.is_named (queued-named w x hops),
    )

-- none of its steps needs a worker
pub walk_for_alone : (w : Wiring) (named : List ℕ) (x : ℕ) (hops : List Hop) → IsWalkFor w named x hops
    → All (λ (step : Step). ¬ NeedsWorker w step) (run_of_walk w hops (pending_for w x hops))
walk_for_alone w names x hops walk =
    All-append (λ (step : Step). ¬ NeedsWorker w step) (map Queue (queued hops (pending_for w x hops)))
    (flat_map (moves_of w) hops)
    (alone-queued w (queued hops (pending_for w x hops)))
    (alone-moves w hops rescuer)
  where
    rescuer : (h : Hop) → Contains hops h → HasRescuer w (lane_of w h.item)
    rescuer h there = elim (leads_from w x hops walk.holds_up) [
      | inl none ↦ absurd (omega (arith, there.1, ap (λ (l : List Hop). length l) none.0))
      | inr leads ↦ (path_hop w leads.first leads.end hops leads.path h there).0.rescuer
    ]
