-- The run of a walk that meets no lane twice ends stuck.
use Rattle.std.proofs.Common.{◌≡◌, ◌≢◌, ℕ, zero, suc, ◌*◌, ◌<◌, ◌≤◌, ◌⊎◌, inl, inr, Bool, true, false, List, [], ◌∷◌}
use Rattle.std.proofs.Common.{◌++◌, length, map, refl, sym, ap, subst, ◌∙◌, arith}
use Rattle.std.specs.Prelude.{Contains, flat_map}
use Rattle.std.specs.List.{All}
use Rattle.std.proofs.lemmas.List.{length-append, length-map}
use Rattle.std.proofs.lemmas.List.Elements.{All-nil, All-cons, All-append}
use Rattle.wq_core.specs.declared.step.Step.{Step}
use Rattle.wq_core.specs.declared.step.Step.TheVariants.{Queue, Start}
use Rattle.wq_core.specs.Wiring.{Wiring, IsWiring, HasRescuer, with_helpers, items, lane_of, declared_by}
use Rattle.wq_core.specs.Rules.{wait_of}
use Rattle.wq_core.specs.Deadlock.{IsSafe}
use Rattle.wq_core.proofs.Wirings.{IsWiring-with_helpers}
use Rattle.wq_hang.specs.declared.hop.Hop.{Hop}
use Rattle.wq_hang.specs.Shortest.{EndsStuck, NeedsWorker}
use Rattle.wq_hang.specs.Walk.{IsHop, IsPath, IsRound, IsWalk, target_beside, walk_steps, moves_of, run_of_walk}
use Rattle.wq_hang.proofs.Apart.{Avoids, Apart, In, not_in, Avoids-from, In-append_left, In-append_right, Apart-append}
use Rattle.wq_hang.proofs.Apart.{Apart-turned}
use Rattle.wq_hang.proofs.Declared.{declared-item, declared-target, beside_cases}
use Rattle.wq_hang.proofs.StuckRounds.{lanes_to, IsWalk-stuck}
use Rattle.wq_hang.proofs.LeastWalks.{lanes_from}
use Rattle.wq_hang.proofs.WalkRuns.{items_of, queued, lane_In, In_item, HoldUp, IsRun-walk, IsStuck-walk}

pub All-from_In : (P : ℕ → Type 0) (xs : List ℕ) → ((x : ℕ) → In x xs → P x) → All P xs
All-from_In P [] each = All-nil P
All-from_In P (x ∷ xs) each = All-cons P x xs (each x (inl refl)) (All-from_In P xs (λ y there. each y (inr there)))

-- ---- a path's hops

pub path_hop : (w : Wiring) (i j : ℕ) (hops : List Hop) → IsPath w i hops j → (h : Hop) → Contains hops h → IsHop w h
    × (lane_of w h.next ≡ lane_of w h.flush.item)
path_hop w i j [] path h (k, lt, at) = absurd (omega arith)
path_hop w i j (g ∷ hops) path h (zero, lt, at) = subst (λ (x : Hop). IsHop w x × (lane_of w x.next ≡ lane_of w x.flush.item)) at (path.1, path.2)
path_hop w i j (g ∷ hops) path h (suc k, lt, at) = path_hop w g.next j hops path.3 h (k, omega arith, at)

pub path_next : (w : Wiring) (i j : ℕ) (hops : List Hop) → IsPath w i hops j → (h : Hop) → Contains hops h
    → In h.next (items_of hops) ⊎ (h.next ≡ j)
path_next w i j [] path h (k, lt, at) = absurd (omega arith)
path_next w i j (g ∷ []) path h (zero, lt, at) = inr (ap (λ (x : Hop). x.next) (sym at) ∙ path.3)
path_next w i j (g ∷ f ∷ hops) path h (zero, lt, at) = inl (inr (inl (ap (λ (x : Hop). x.next) (sym at) ∙ sym path.3.0)))
path_next w i j (g ∷ hops) path h (suc k, lt, at) = elim (path_next w g.next j hops path.3 h (k, omega arith, at)) [ inl there ↦ inl (inr there) | inr end ↦ inr end ]

pub path_first : (w : Wiring) (i j : ℕ) (hops : List Hop) → IsPath w i hops j → 0 < length hops → In i (items_of hops)
path_first w i j [] path some = absurd (omega arith)
path_first w i j (g ∷ hops) path some = inl (sym path.0)

-- the lanes to which a path leads are those from which it leads, but for the first and the last
pub path_lanes : (w : Wiring) (i j : ℕ) (hops : List Hop) → IsPath w i hops j
    → lane_of w i ∷ lanes_to w hops ≡ lanes_from w hops ++ (lane_of w j ∷ [])
path_lanes w i j [] path = ap (λ (x : ℕ). lane_of w x ∷ []) path
path_lanes w i j (h ∷ hops) path =
    ap (λ (x : ℕ). lane_of w x ∷ lane_of w h.flush.item ∷ lanes_to w hops) (sym path.0)
    ∙ ap (λ (x : ℕ). lane_of w h.item ∷ x ∷ lanes_to w hops) (sym path.2)
    ∙ ap (λ (l : List ℕ). lane_of w h.item ∷ l) (path_lanes w h.next j hops path.3)

-- after the first hop
lanes_around : (w : Wiring) (i : ℕ) (h : Hop) (hops : List Hop) → IsPath w i (h ∷ hops) i
    → lanes_to w (h ∷ hops) ≡ lanes_from w hops ++ (lane_of w h.item ∷ [])
lanes_around w i h hops path =
    ap (λ (x : ℕ). x ∷ lanes_to w hops) (sym path.2)
    ∙ path_lanes w h.next i hops path.3
    ∙ ap (λ (x : ℕ). lanes_from w hops ++ (lane_of w x ∷ [])) (sym path.0)

pub round_lanes : (w : Wiring) (i : ℕ) (hops : List Hop) → IsPath w i hops i → Apart (lanes_from w hops)
    → Apart (lanes_to w hops)
round_lanes w i [] path apart = tt
round_lanes w i (h ∷ hops) path apart =
    subst Apart (sym (lanes_around w i h hops path))
    (Apart-append (lanes_from w hops) (lane_of w h.item ∷ []) apart.1 (tt, tt) (λ x there. (
      (λ is. not_in (lane_of w h.item) (lanes_from w hops) apart.0
          (subst (λ (y : ℕ). In y (lanes_from w hops)) is there)),
      tt,
    )))

lanes_round : (w : Wiring) (i : ℕ) (hops : List Hop) → IsPath w i hops i → Apart (lanes_to w hops)
    → Apart (lanes_from w hops)
lanes_round w i [] path apart = tt
lanes_round w i (h ∷ hops) path apart =
    Apart-turned (lane_of w h.item) (lanes_from w hops) (subst Apart (lanes_around w i h hops path) apart)

-- a walk that leads to no lane twice comes from none twice
pub walk_lanes : (w : Wiring) (hops : List Hop) (beside : List ℕ) → IsWalk w hops beside → Apart (lanes_to w hops)
    → Apart (lanes_from w hops)
walk_lanes w hops beside (inl (round, same)) apart = lanes_round w round.first hops round.path apart
walk_lanes w hops beside (inr (h, hop, bare, one, other)) apart =
    subst (λ (l : List Hop). Apart (lanes_from w l)) (sym one) (tt, tt)

-- the hops of a walk
pub walk_hop : (w : Wiring) (hops : List Hop) (beside : List ℕ) → IsWalk w hops beside → (h : Hop) → Contains hops h
    → IsHop w h
walk_hop w hops beside (inl (round, same)) h there = (path_hop w round.first round.first hops round.path h there).0
walk_hop w hops beside (inr (g, hop, bare, one, other)) h there =
    the_one (subst (λ (l : List Hop). Contains l h) one there)
  where
    the_one : Contains (g ∷ []) h → IsHop w h
    the_one (zero, lt, at) = subst (IsHop w) at hop
    the_one (suc k, lt, at) = absurd (omega arith)

-- ---- what is queued beside

pub lane_to_In : (w : Wiring) (hops : List Hop) (h : Hop) → Contains hops h
    → In (lane_of w h.flush.item) (lanes_to w hops)
lane_to_In w [] h (k, lt, at) = omega arith
lane_to_In w (g ∷ hops) h (zero, lt, at) = inl (ap (λ (x : Hop). lane_of w x.flush.item) (sym at))
lane_to_In w (g ∷ hops) h (suc k, lt, at) = inr (lane_to_In w hops h (k, omega arith, at))

beside_hop : (hops : List Hop) (i : ℕ) → In i (flat_map target_beside hops) → (h : Hop) × Contains hops h × (i ≡ h.flush.item) × (h.flush.item ≢ h.next)
beside_hop [] i there = absurd there
beside_hop (h ∷ hops) i there = by (λ later. beside_hop hops i later) (beside_cases h)
  where
    here : h.flush.item ≢ h.next → In i (h.flush.item ∷ flat_map target_beside hops) → (In i (flat_map target_beside hops) → (g : Hop) × Contains hops g × (i ≡ g.flush.item) × (g.flush.item ≢ g.next))
        → (g : Hop) × Contains (h ∷ hops) g × (i ≡ g.flush.item) × (g.flush.item ≢ g.next)
    here other (inl same) rest = (h, (0, omega arith, refl), same, other)
    here other (inr later) rest = let found = rest later in (found.0, (suc found.1.0, omega (arith, found.1.1), found.1.2), found.2, found.3)

    by : (In i (flat_map target_beside hops) → (g : Hop) × Contains hops g × (i ≡ g.flush.item) × (g.flush.item ≢ g.next))
        → ((target_beside h ≡ []) × (h.flush.whole ≡ false → h.flush.item ≡ h.next)) ⊎ ((target_beside h ≡ h.flush.item ∷ []) × (h.flush.item ≢ h.next))
        → (g : Hop) × Contains (h ∷ hops) g × (i ≡ g.flush.item) × (g.flush.item ≢ g.next)
    by rest (inl none) =
        let found = rest (subst (λ (l : List ℕ). In i (l ++ flat_map target_beside hops)) none.0 there) in
        (found.0, (suc found.1.0, omega (arith, found.1.1), found.1.2), found.2, found.3)
    by rest (inr one) = here one.1 (subst (λ (l : List ℕ). In i (l ++ flat_map target_beside hops)) one.0 there) rest

beside_In : (hops : List Hop) (h : Hop) → Contains hops h → (i : ℕ) → In i (target_beside h) → In i (flat_map target_beside hops)
beside_In [] h (k, lt, at) i there = absurd (omega arith)
beside_In (g ∷ hops) h (zero, lt, at) i there = In-append_left i (target_beside g) (flat_map target_beside hops) (subst (λ (x : Hop). In i (target_beside x)) (sym at) there)
beside_In (g ∷ hops) h (suc k, lt, at) i there = In-append_right i (target_beside g) (flat_map target_beside hops) (beside_In hops h (k, omega arith, at) i there)

beside_apart : (w : Wiring) (hops : List Hop) → Apart (lanes_to w hops) → Apart (flat_map target_beside hops)
beside_apart w [] apart = tt
beside_apart w (h ∷ hops) apart = by (beside_apart w hops apart.1) (beside_cases h)
  where
    avoids : Avoids h.flush.item (flat_map target_beside hops)
    avoids = Avoids-from h.flush.item (flat_map target_beside hops) (λ there.
        let found = beside_hop hops h.flush.item there in
        not_in (lane_of w h.flush.item) (lanes_to w hops) apart.0 (subst (λ (i : ℕ). In (lane_of w i) (lanes_to w hops)) (sym found.2) (lane_to_In w hops found.0 found.1))
        )

    by : Apart (flat_map target_beside hops) → ((target_beside h ≡ []) × (h.flush.whole ≡ false → h.flush.item ≡ h.next)) ⊎ ((target_beside h ≡ h.flush.item ∷ []) × (h.flush.item ≢ h.next))
        → Apart (target_beside h ++ flat_map target_beside hops)
    by rest (inl none) = subst (λ (l : List ℕ). Apart (l ++ flat_map target_beside hops)) (sym none.0) rest
    by rest (inr one) = subst (λ (l : List ℕ). Apart (l ++ flat_map target_beside hops)) (sym one.0) (avoids, rest)

-- ---- items on different lanes

items_avoid : (w : Wiring) (i : ℕ) (hops : List Hop) → Avoids (lane_of w i) (lanes_from w hops) → Avoids i (items_of hops)
items_avoid w i [] avoids = tt
items_avoid w i (h ∷ hops) avoids = ((λ same. avoids.0 (ap (lane_of w) same)), items_avoid w i hops avoids.1)

pub items_apart : (w : Wiring) (hops : List Hop) → Apart (lanes_from w hops) → Apart (items_of hops)
items_apart w [] apart = tt
items_apart w (h ∷ hops) apart = (items_avoid w h.item hops apart.0, items_apart w hops apart.1)

-- an item whose lane none of the hops leaves isn't one of theirs
pub lane_apart : (w : Wiring) (hops : List Hop) (i j : ℕ) → Avoids (lane_of w i) (lanes_from w hops)
    → In j (items_of hops) → lane_of w i ≢ lane_of w j
lane_apart w hops i j avoids there is =
    let found = In_item hops j there in
    not_in (lane_of w i) (lanes_from w hops) avoids (subst (λ (q : ℕ). In q (lanes_from w hops)) (ap (lane_of w) found.2 ∙ sym is) (lane_In w hops found.0 found.1))

pub one_on_lane : (w : Wiring) (hops : List Hop) → Apart (lanes_from w hops) → (i j : ℕ) → In i (items_of hops)
    → In j (items_of hops) → lane_of w i ≡ lane_of w j → i ≡ j
one_on_lane w [] apart i j one other same = absurd one
one_on_lane w (h ∷ hops) apart i j (inl one) (inl other) same = one ∙ sym other
one_on_lane w (h ∷ hops) apart i j (inl one) (inr other) same = absurd (lane_apart w hops h.item j apart.0 other (ap (lane_of w) (sym one) ∙ same))
one_on_lane w (h ∷ hops) apart i j (inr one) (inl other) same = absurd (lane_apart w hops h.item i apart.0 one (ap (lane_of w) (sym other) ∙ sym same))
one_on_lane w (h ∷ hops) apart i j (inr one) (inr other) same = one_on_lane w hops apart.1 i j one other same

-- ---- a walk holds up

module _ (w : Wiring) (wiring : IsWiring w) where
  module _ (hops : List Hop) (round : IsRound w hops) (apart : Apart (lanes_from w hops)) where
    abbrev targets : List ℕ
    targets = flat_map target_beside hops

    is_hop : (h : Hop) → Contains hops h → IsHop w h × (lane_of w h.next ≡ lane_of w h.flush.item)
    is_hop h there = path_hop w round.first round.first hops round.path h there

    next_waits : (h : Hop) → Contains hops h → In h.next (items_of hops)
    next_waits h there = elim (path_next w round.first round.first hops round.path h there) [
      | inl found ↦ found
      | inr end ↦ subst (λ (i : ℕ). In i (items_of hops)) (sym end) (path_first w round.first round.first hops round.path round.some)
    ]

    lane_waits : (i : ℕ) → In i (items_of hops) → In (lane_of w i) (lanes_from w hops)
    lane_waits i there = let found = In_item hops i there in subst (λ (j : ℕ). In (lane_of w j) (lanes_from w hops)) found.2 (lane_In w hops found.0 found.1)

    HoldUp-round : HoldUp w hops targets
    HoldUp-round = record {
      declared = λ h there. (is_hop h there).0.declared;
      rescuer = λ h there. (is_hop h there).0.rescuer;
      apart = apart;
      once = Apart-append (items_of hops) targets (items_apart w hops apart) (beside_apart w hops (round_lanes w round.first hops round.path apart)) across;
      below = All-append (λ i. i < items w) (items_of hops) targets (All-from_In (λ i. i < items w) (items_of hops) item_below) (All-from_In (λ i. i < items w) targets beside_below);
      holder = λ h there. holder h there (beside_cases h);
      lanes = λ i there. inr (beside_lane i there);
    }
      where
        across : (i : ℕ) → In i (items_of hops) → Avoids i targets
        across i there = Avoids-from i targets (λ again.
            let found = beside_hop hops i again in
            let h : Hop = found.0 in
            let lane : lane_of w i ≡ lane_of w h.next = ap (lane_of w) found.2 ∙ sym (is_hop h found.1).1 in
            found.3 (sym found.2 ∙ one_on_lane w hops apart i h.next there (next_waits h found.1) lane)
            )

        item_below : (i : ℕ) → In i (items_of hops) → i < items w
        item_below i there =
            let found = In_item hops i there in
            subst (λ (j : ℕ). j < items w) found.2 (declared-item w found.0.item found.0.flush (is_hop found.0 found.1).0.declared)

        beside_below : (i : ℕ) → In i targets → i < items w
        beside_below i there =
            let found = beside_hop hops i there in
            subst (λ (j : ℕ). j < items w) (sym found.2) (declared-target w found.0.item found.0.flush wiring (is_hop found.0 found.1).0.declared)

        beside_lane : (i : ℕ) → In i targets → In (lane_of w i) (lanes_from w hops)
        beside_lane i there =
            let found = beside_hop hops i there in
            let h : Hop = found.0 in
            subst (λ (q : ℕ). In q (lanes_from w hops)) ((is_hop h found.1).1 ∙ ap (lane_of w) (sym found.2)) (lane_waits h.next (next_waits h found.1))

        holder : (h : Hop) → Contains hops h → ((target_beside h ≡ []) × (h.flush.whole ≡ false → h.flush.item ≡ h.next)) ⊎ ((target_beside h ≡ h.flush.item ∷ []) × (h.flush.item ≢ h.next))
            → (i : ℕ) × In i (queued hops targets) × (lane_of w i ≡ lane_of w h.flush.item) × (h.flush.whole ≡ false → i ≡ h.flush.item)
        holder h there (inl none) = (h.next, In-append_left h.next (items_of hops) targets (next_waits h there), (is_hop h there).1, λ one. sym (none.1 one))
        holder h there (inr one) =
            let here : In h.flush.item (target_beside h) = subst (λ (l : List ℕ). In h.flush.item l) (sym one.0) (inl refl) in
            (h.flush.item, In-append_right h.flush.item (items_of hops) targets (beside_In hops h there h.flush.item here), refl, λ kind. refl)

  HoldUp-bare : (h : Hop) → IsHop w h → (¬ HasRescuer w (lane_of w h.flush.item)) → HoldUp w (h ∷ []) (h.flush.item ∷ [])
  HoldUp-bare h hop bare = record {
    declared = λ g there. subst (λ (x : Hop). Contains (declared_by w x.item) x.flush) (the_one g there) hop.declared;
    rescuer = λ g there. subst (λ (x : Hop). HasRescuer w (lane_of w x.item)) (the_one g there) hop.rescuer;
    apart = (tt, tt);
    once = (((λ same. bare (subst (λ (i : ℕ). HasRescuer w (lane_of w i)) same hop.rescuer)), tt), (tt, tt));
    below = All-cons (λ i. i < items w) h.item (h.flush.item ∷ []) (declared-item w h.item h.flush hop.declared) (All-cons (λ i. i < items w) h.flush.item [] (declared-target w h.item h.flush wiring hop.declared) (All-nil (λ i. i < items w)));
    holder = λ g there. subst (λ (x : Hop). (i : ℕ) × In i (h.item ∷ h.flush.item ∷ []) × (lane_of w i ≡ lane_of w x.flush.item) × (x.flush.whole ≡ false → i ≡ x.flush.item)) (the_one g there) (h.flush.item, inr (inl refl), refl, λ kind. refl);
    lanes = λ i there. inl (λ rescuer. bare (subst (λ (j : ℕ). HasRescuer w (lane_of w j)) (the_target i there) rescuer));
  }
    where
      the_one : (g : Hop) → Contains (h ∷ []) g → h ≡ g
      the_one g (zero, lt, at) = at
      the_one g (suc k, lt, at) = absurd (omega arith)

      the_target : (i : ℕ) → In i (h.flush.item ∷ []) → i ≡ h.flush.item
      the_target i (inl same) = same
      the_target i (inr later) = absurd later

  HoldUp-walk : (hops : List Hop) (beside : List ℕ) → IsWalk w hops beside → Apart (lanes_from w hops) → HoldUp w hops beside
  HoldUp-walk hops beside (inl (round, same)) apart = subst (HoldUp w hops) (sym same) (HoldUp-round hops round apart)
  HoldUp-walk hops beside (inr (h, hop, bare, one, other)) apart =
      subst (λ (hs : List Hop). HoldUp w hs beside) (sym one) (subst (λ (is : List ℕ). HoldUp w (h ∷ []) is) (sym other) (HoldUp-bare h hop bare))

-- the same under any number of helpers
pub HoldUp-helped : (w : Wiring) (n : ℕ) (hops : List Hop) (beside : List ℕ) → HoldUp w hops beside
    → HoldUp (with_helpers w n) hops beside
HoldUp-helped w n hops beside hold = record {
  declared = hold.declared;
  rescuer = hold.rescuer;
  apart = lanes_kept hops hold.apart;
  once = hold.once;
  below = hold.below;
  holder = hold.holder;
  lanes = λ i there. elim (hold.lanes i there) [ inl bare ↦ inl bare | inr on ↦ inr (subst (In (lane_of w i)) (same_lanes hops) on) ];
}
  where
    same_lanes : (hs : List Hop) → lanes_from w hs ≡ lanes_from (with_helpers w n) hs
    same_lanes [] = refl
    same_lanes (h ∷ hs) = ap (λ (l : List ℕ). lane_of w h.item ∷ l) (same_lanes hs)

    lanes_kept : (hs : List Hop) → Apart (lanes_from w hs) → Apart (lanes_from (with_helpers w n) hs)
    lanes_kept hs apart = subst Apart (same_lanes hs) apart

-- ---- how long the run is

length-moves : (w : Wiring) (hops : List Hop) → length (flat_map (moves_of w) hops) ≡ 2 * length hops
length-moves w [] = refl
length-moves w (h ∷ hops) = let rest : length (flat_map (moves_of w) hops) ≡ 2 * length hops = length-moves w hops in omega arith

pub length-run_of_walk : (w : Wiring) (hops : List Hop) (beside : List ℕ)
    → length (run_of_walk w hops beside) ≡ walk_steps hops beside
length-run_of_walk w hops beside =
    let all : List ℕ = items_of hops ++ beside in
    omega (arith, length-append (map Queue all) (flat_map (moves_of w) hops), length-map all Queue, length-append (items_of hops) beside, length-map hops (λ (h : Hop). h.item), length-moves w hops)

-- ---- none of its steps needs a worker

pub alone-queued : (w : Wiring) (is : List ℕ) → All (λ (step : Step). ¬ NeedsWorker w step) (map Queue is)
alone-queued w [] = All-nil (λ (step : Step). ¬ NeedsWorker w step)
alone-queued w (i ∷ is) = All-cons (λ (step : Step). ¬ NeedsWorker w step) (Queue i) (map Queue is) (λ needs. needs) (alone-queued w is)

alone-wait : (w : Wiring) (q : ℕ) (whole : Bool) (b : ℕ) → ¬ NeedsWorker w (wait_of whole q b)
alone-wait w q false b needs = needs
alone-wait w q true b needs = needs

pub alone-moves : (w : Wiring) (hops : List Hop) → ((h : Hop) → Contains hops h → HasRescuer w (lane_of w h.item))
    → All (λ (step : Step). ¬ NeedsWorker w step) (flat_map (moves_of w) hops)
alone-moves w [] rescuer = All-nil (λ (step : Step). ¬ NeedsWorker w step)
alone-moves w (h ∷ hops) rescuer =
    let needs_none : Step → Type 0 = λ (step : Step). ¬ NeedsWorker w step in
    let wait : Step = wait_of h.flush.whole (lane_of w h.item) h.flush.item in
    All-cons (λ (step : Step). ¬ NeedsWorker w step) (Start (lane_of w h.item) h.item) (wait ∷ flat_map (moves_of w) hops) (λ needs. needs (rescuer h (0, omega arith, refl)))
    (All-cons (λ (step : Step). ¬ NeedsWorker w step) wait (flat_map (moves_of w) hops) (alone-wait w (lane_of w h.item) h.flush.whole h.flush.item)
    (alone-moves w hops (λ g there. rescuer g (suc there.0, omega (arith, there.1), there.2))))

-- ---- the laws

walk_some : (w : Wiring) (hops : List Hop) (beside : List ℕ) → IsWalk w hops beside → 0 < length hops
walk_some w hops beside (inl (round, same)) = round.some
walk_some w hops beside (inr (h, hop, bare, one, other)) = omega (arith, ap (λ (l : List Hop). length l) one)

pub walk_hangs : (w : Wiring) (hops : List Hop) (beside : List ℕ) → IsWiring w → IsWalk w hops beside
    → Apart (lanes_from w hops) → (n : ℕ) → EndsStuck w n (run_of_walk w hops beside)
walk_hangs w hops beside wiring walk apart n =
    let v : Wiring = with_helpers w n in
    let helped : HoldUp v hops beside = HoldUp-helped w n hops beside (HoldUp-walk w wiring hops beside walk apart) in
    let sound : IsWiring v = IsWiring-with_helpers w n wiring in
    (IsRun-walk v hops beside sound helped, IsStuck-walk v hops beside sound helped (walk_some w hops beside walk))

pub walk_alone : (w : Wiring) (hops : List Hop) (beside : List ℕ) → IsWalk w hops beside
    → All (λ (step : Step). ¬ NeedsWorker w step) (run_of_walk w hops beside)
walk_alone w hops beside walk =
    All-append (λ (step : Step). ¬ NeedsWorker w step) (map Queue (queued hops beside)) (flat_map (moves_of w) hops)
    (alone-queued w (queued hops beside))
    (alone-moves w hops (λ h there. (walk_hop w hops beside walk h there).rescuer))

pub IsSafe-no_walk : (w : Wiring) → IsWiring w → ((hops : List Hop) (beside : List ℕ) → ¬ IsWalk w hops beside)
    → IsSafe w
IsSafe-no_walk w wiring none n few steps run stuck =
    let walk = IsWalk-stuck w n steps wiring (run, stuck) in
    none walk.0 walk.1 walk.2

pub IsWalk-stuck_run : (w : Wiring) (n : ℕ) (steps : List Step) → IsWiring w → EndsStuck w n steps
    → (hops : List Hop) × (beside : List ℕ) × IsWalk w hops beside × (walk_steps hops beside ≤ length steps)
IsWalk-stuck_run w n steps wiring ends =
    let walk = IsWalk-stuck w n steps wiring ends in
    (walk.0, walk.1, walk.2, walk.3)
