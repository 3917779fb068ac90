-- From an item of which an entry is unfinished in a stuck state, hops lead to a bare lane or round: a walk that holds
-- it up, whose run has no more steps than the run to that state.
use Rattle.std.proofs.Common.{◌≡◌, ◌≢◌, ℕ, zero, suc, ◌+◌, ◌*◌, ◌<◌, ◌≤◌, ◌⊎◌, inl, inr, Bool, true, false, cond, List}
use Rattle.std.proofs.Common.{[], ◌∷◌, ◌++◌, length, Some, refl, sym, ap, subst, ◌∙◌, arith}
use Rattle.std.specs.Prelude.{Contains, flat_map, slice_index_or, if◌then◌else◌, ◌==◌, ◌||◌}
use Rattle.std.specs.List.{All}
use Rattle.std.proofs.lemmas.Bool.{eqb-true, eq-eqb, both_ways}
use Rattle.std.proofs.lemmas.List.{length-append}
use Rattle.std.proofs.lemmas.List.Elements.{All-nil, All-cons, All-append, All-contains}
use Rattle.wq_core.specs.declared.entry.Entry.{Entry}
use Rattle.wq_core.specs.declared.step.Step.{Step}
use Rattle.wq_core.specs.Wiring.{Wiring, IsWiring, HasRescuer, with_helpers, items, lane_of}
use Rattle.wq_core.specs.State.{State, lane_at, IsUnfinishedOn, IsBusy, HasUnfinishedOf}
use Rattle.wq_core.specs.Rules.{Lawful}
use Rattle.wq_core.specs.Runs.{IsForcedStep, end_of}
use Rattle.wq_core.specs.Held.{IsSoundState}
use Rattle.wq_core.proofs.Sound.{IsSoundState-end_of}
use Rattle.wq_core.proofs.Wirings.{cases_rescuer, IsWiring-with_helpers}
use Rattle.wq_hang.specs.declared.hop.Hop.{Hop}
use Rattle.wq_hang.specs.Walk.{IsHop, IsPath, target_beside, walk_steps}
use Rattle.wq_hang.specs.WalkFor.{IsWalkFor, HoldsUp, once, named_beside, pending_beside, pending_for}
use Rattle.wq_hang.specs.ShortestFor.{EndsStuckFor}
use Rattle.wq_hang.proofs.Apart.{Avoids, Apart, In, cases_In, Avoids-from, Apart-few, Apart-within, In-append_left}
use Rattle.wq_hang.proofs.Apart.{In-append_right}
use Rattle.wq_hang.proofs.Once.{In-once, Apart-once, length-once}
use Rattle.wq_hang.proofs.Weights.{lane_weight, lane_weight-unfinished, weight, weight_on, weight_on-apart}
use Rattle.wq_hang.proofs.Weights.{weight-end_of, run_weight}
use Rattle.wq_hang.proofs.StuckLanes.{item_on, item_run, first_run-some, first_run-at, runs_on, waits_for, weighs}
use Rattle.wq_hang.proofs.StuckLanes.{IsHopFrom, hop_from}
use Rattle.wq_hang.proofs.StuckRounds.{IsHop-without, IsPath-without}
use Rattle.wq_hang.proofs.LeastWalks.{lanes_from, lanes_from-same, IsPath-append, length-lanes_from, lanes_from-below}
use Rattle.wq_hang.proofs.WalkRuns.{items_of, lane_In, In_lane, In_item, In-append}
use Rattle.wq_hang.proofs.Shortest.{path_hop, path_next}
use Rattle.wq_hang.proofs.LaneCounts.{IsLeftOn, few_others, total, counted}
use Rattle.wq_hang.proofs.CutWalks.{LeavesAt, Apart-hop, leaves_at, path_parts, lanes_from-append, pending_cases}
use Rattle.wq_hang.proofs.CutWalks.{pending_target}
use Rattle.wq_hang.proofs.CutWalks.{In-flat_append}

-- ---- what is pending beside

-- x, if another item waits first
pub named_is : (w : Wiring) (x first end : ℕ) (hops : List Hop) → IsPath w first hops end → 0 < length hops → (i : ℕ)
    → In i (named_beside x hops) → (i ≡ x) × (first ≢ x)
named_is w x first end [] path some i there = absurd (omega arith)
named_is w x first end (h ∷ hops) path some i there = by (h.item == x) refl there
  where
    by : (b : Bool) → (h.item == x) ≡ b → In i (if b then [] else x ∷ []) → (i ≡ x) × (first ≢ x)
    by true is here = absurd here
    by false is (inl same) =
        (same, λ one. both_ways (h.item == x) is (eq-eqb h.item x (path.0 ∙ one)))
    by false is (inr later) = absurd later

-- the target of a hop, if it is flushed alone and isn't the next one
pub target_is : (h : Hop) (i : ℕ) → In i (target_beside h)
    → (h.flush.whole ≡ false) × (i ≡ h.flush.item) × (h.flush.item ≢ h.next)
target_is h i there = by h.flush.whole (h.flush.item == h.next) refl refl there
  where
    by : (whole same : Bool) → h.flush.whole ≡ whole → (h.flush.item == h.next) ≡ same
        → In i (if whole || same then [] else h.flush.item ∷ [])
        → (h.flush.whole ≡ false) × (i ≡ h.flush.item) × (h.flush.item ≢ h.next)
    by true same kind test here = absurd here
    by false true kind test here = absurd here
    by false false kind test (inl is) =
        (kind, is, λ one. both_ways (h.flush.item == h.next) test (eq-eqb h.flush.item h.next one))
    by false false kind test (inr later) = absurd later

-- if its lane has a rescuer
pub pending_rescued : (w : Wiring) (h : Hop) → HasRescuer w (lane_of w h.flush.item)
    → pending_beside w h ≡ target_beside h
pending_rescued w h rescuer = ap (λ (b : Bool). if b then h.flush.item ∷ [] else target_beside h) rescuer

-- the hop by which an item is pending
pub pending_hop : (w : Wiring) (hops : List Hop) (i : ℕ) → In i (flat_map (pending_beside w) hops)
    → (h : Hop) × Contains hops h × In i (pending_beside w h)
pending_hop w [] i there = absurd there
pending_hop w (h ∷ hops) i there =
    elim (In-append i (pending_beside w h) (flat_map (pending_beside w) hops) there) [
      | inl here ↦ (h, (0, omega arith, refl), here)
      | inr later ↦ (
          let found = pending_hop w hops i later in
          (found.0, (suc found.1.0, omega (arith, found.1.1), found.1.2), found.2)
          )
    ]

-- ---- how many they are

pub length-named : (x : ℕ) (hops : List Hop) → length (named_beside x hops) ≤ 1
length-named x [] = omega arith
length-named x (h ∷ hops) = by (h.item == x)
  where
    by : (b : Bool) → length (if b then [] else x ∷ []) ≤ 1
    by true = omega arith
    by false = omega arith

pub length-pending_beside : (w : Wiring) (h : Hop) → length (pending_beside w h) ≤ 1
length-pending_beside w h = elim (pending_cases w h) [
  | inl none ↦ omega (arith, ap (λ (l : List ℕ). length l) none)
  | inr one ↦ omega (arith, ap (λ (l : List ℕ). length l) one)
]

length-flat_pending : (w : Wiring) (hops : List Hop) → length (flat_map (pending_beside w) hops) ≤ length hops
length-flat_pending w [] = omega arith
length-flat_pending w (h ∷ hops) =
    let rest : length (flat_map (pending_beside w) hops) ≤ length hops = length-flat_pending w hops in
    omega (
      arith,
      rest,
      length-pending_beside w h,
      length-append (pending_beside w h) (flat_map (pending_beside w) hops),
    )

-- no more than one for each hop, and one
pub length-pending : (w : Wiring) (x : ℕ) (hops : List Hop) → length (pending_for w x hops) ≤ length hops + 1
length-pending w x hops =
    let all : List ℕ = named_beside x hops ++ flat_map (pending_beside w) hops in
    let few : length (once all) ≤ length all = length-once all all (λ i there. there) in
    omega (
      arith,
      few,
      length-append (named_beside x hops) (flat_map (pending_beside w) hops),
      length-named x hops,
      length-flat_pending w hops,
    )

-- ---- a stuck state

-- 3 for each lane that has a rescuer
abbrev three_unless : Bool → ℕ
three_unless bare = cond bare 0 3

abbrev waits_on : Wiring → ℕ → ℕ
waits_on w q = three_unless (slice_index_or w.bare q false)

total-rescued : (w : Wiring) (qs : List ℕ) → ((q : ℕ) → In q qs → HasRescuer w q)
    → total (waits_on w) qs ≡ 3 * length qs
total-rescued w [] each = refl
total-rescued w (q ∷ qs) each =
    let here : waits_on w q ≡ 3 = ap three_unless (each q (inl refl)) in
    let rest : total (waits_on w) qs ≡ 3 * length qs = total-rescued w qs (λ p there. each p (inr there)) in
    omega (arith, here, rest)

is_bare : (w : Wiring) (q : ℕ) → (¬ HasRescuer w q) → waits_on w q ≡ 0
is_bare w q bare = by (slice_index_or w.bare q false) refl
  where
    by : (b : Bool) → slice_index_or w.bare q false ≡ b → three_unless b ≡ 0
    by true is = refl
    by false is = absurd (bare is)

middle : (xs : List Hop) (h : Hop) (ys : List Hop) → Contains (xs ++ (h ∷ ys)) h
middle [] h ys = (0, omega arith, refl)
middle (x ∷ xs) h ys = let at = middle xs h ys in (suc at.0, omega (arith, at.1), at.2)

module _ (w : Wiring) (wiring : IsWiring w) (s : State) (sound : IsSoundState w s)
    (no_step : (step : Step) → IsForcedStep w step → ¬ Lawful w s step) where
  own_item : (q : ℕ) → HasRescuer w q → IsBusy (lane_at s q) → lane_of w (item_on s q) ≡ q
  own_item q rescuer busy =
      let hop = hop_from w s sound no_step q rescuer busy in
      ap (lane_of w) (sym hop.1.item) ∙ hop.1.own

  -- a lane weighs 3 and one for each other item of which an entry is unfinished there
  others-weight : (q : ℕ) → HasRescuer w q → IsBusy (lane_at s q) → (is : List ℕ) → Apart is
      → ((i : ℕ) → In i is → IsLeftOn (lane_at s q) i) → ((i : ℕ) → In i is → i ≢ item_on s q)
      → 3 + length is ≤ lane_weight (lane_at s q)
  others-weight q rescuer busy is apart left other =
      let runs = runs_on w s sound no_step q rescuer busy in
      let first = first_run-some (lane_at s q) runs.0 runs.1 runs.2 in
      let at = first_run-at (lane_at s q) first.0 first.1 in
      let waits = waits_for w s sound no_step q at.0 first.0 at.1 in
      let three : run_weight (Some first.0) ≡ 3 = weighs w s sound no_step first.0 waits.0 waits.1 in
      let item : item_on s q ≡ first.0.entry.item = ap item_run first.1 in
      let le : run_weight (Some first.0) + length is ≤ lane_weight (lane_at s q) =
      few_others (lane_at s q) first.0 first.1 is apart left (λ i there same. other i there (same ∙ sym item)) in
      omega (arith, three, le)

  -- an item that is pending, or is on the bare lane of the last target
  record IsBeside (t : ℕ) (qs : List ℕ) (i : ℕ) : Type 0 where
    on : In (lane_of w i) qs
    kind : (HasRescuer w (lane_of w i) × IsLeftOn (lane_at s (lane_of w i)) i × (i ≢ item_on s (lane_of w i)))
        ⊎ ((¬ HasRescuer w (lane_of w i)) × (i ≡ t))

  weighs_enough : (t : ℕ) (qs is : List ℕ) → Apart qs → ((q : ℕ) → In q qs → IsBusy (lane_at s q)) → Apart is
      → ((i : ℕ) → In i is → IsBeside t qs i) → total (waits_on w) qs + length is ≤ weight s.lanes
  weighs_enough t qs is apart busy is_apart beside =
      let on : total (waits_on w) qs + length is ≤ weight_on s.lanes qs =
      counted w s (waits_on w) qs is is_apart (λ i there. (beside i there).on)
      (λ q there js js_apart each. fits q there js js_apart each (cases_rescuer w q)) in
      let all : weight_on s.lanes qs ≤ weight s.lanes = weight_on-apart s.lanes qs apart in
      omega (arith, on, all)
    where
      fits : (q : ℕ) → In q qs → (js : List ℕ) → Apart js → ((j : ℕ) → In j js → In j is × (lane_of w j ≡ q))
          → HasRescuer w q ⊎ (¬ HasRescuer w q) → waits_on w q + length js ≤ lane_weight (lane_at s q)
      fits q there js js_apart each (inl rescuer) =
          let three : waits_on w q ≡ 3 = ap three_unless rescuer in
          let le : 3 + length js ≤ lane_weight (lane_at s q) =
          others-weight q rescuer (busy q there) js js_apart (λ j in_js. (here j in_js).0)
          (λ j in_js. (here j in_js).1) in
          omega (arith, three, le)
        where
          here : (j : ℕ) → In j js → IsLeftOn (lane_at s q) j × (j ≢ item_on s q)
          here j in_js =
              let at = each j in_js in
              elim (beside j at.0).kind [
                | inl is_left ↦ subst (λ (p : ℕ). IsLeftOn (lane_at s p) j × (j ≢ item_on s p)) at.1
                    (is_left.1, is_left.2)
                | inr bare ↦ absurd (bare.0 (subst (λ (p : ℕ). HasRescuer w p) (sym at.1) rescuer))
              ]
      fits q there js js_apart each (inr bare) =
          let none : waits_on w q ≡ 0 = is_bare w q bare in
          let busy_here : 1 ≤ lane_weight (lane_at s q) =
          lane_weight-unfinished (lane_at s q) (busy q there).0 (busy q there).1 in
          let few : length js ≤ 1 = Apart-within js (t ∷ []) js_apart (λ j in_js. inl (only j in_js)) in
          omega (arith, none, busy_here, few)
        where
          only : (j : ℕ) → In j js → j ≡ t
          only j in_js =
              let at = each j in_js in
              elim (beside j at.0).kind [
                | inl is_left ↦ absurd (bare (subst (λ (p : ℕ). HasRescuer w p) at.1 is_left.0))
                | inr last ↦ last.1
              ]

  -- ---- the hops from lane to lane

  -- a hop that leads from a busy lane to one that has a rescuer
  record IsOnWay (h : Hop) : Type 0 where
    hop : IsHopFrom w s sound no_step (lane_of w h.item) h
    busy : IsBusy (lane_at s (lane_of w h.item))
    to : HasRescuer w (lane_of w h.flush.item)

  -- hops from lane p to lane q, which leave no lane twice
  record LeadsTo (p q : ℕ) (hops : List Hop) : Type 0 where
    path : IsPath w (item_on s p) hops (item_on s q)
    apart : Apart (lanes_from w hops)
    each : All IsOnWay hops

  abbrev Found : ℕ → Type 0
  Found x = (hops : List Hop) × HoldsUp w x hops × Apart (lanes_from w hops)
      × (walk_steps hops (pending_for w x hops) ≤ weight s.lanes)

  -- the hops leave only busy lanes that have a rescuer
  left_rescued : (p q : ℕ) (hops : List Hop) → LeadsTo p q hops → (r : ℕ) → In r (lanes_from w hops) → HasRescuer w r
  left_rescued p q hops leads r there =
      let at = In_lane w hops r there in
      let hop : IsHop w at.0 = (path_hop w (item_on s p) (item_on s q) hops leads.path at.0 at.1).0 in
      subst (HasRescuer w) at.2 hop.rescuer

  left_busy : (p q : ℕ) (hops : List Hop) → LeadsTo p q hops → (r : ℕ) → In r (lanes_from w hops)
      → IsBusy (lane_at s r)
  left_busy p q hops leads r there =
      let at = In_lane w hops r there in
      let is : IsOnWay at.0 = All-contains IsOnWay hops at.0 leads.each at.1 in
      subst (λ (k : ℕ). IsBusy (lane_at s k)) at.2 is.busy

  -- an entry of x is unfinished on its lane
  left_on_own : (x : ℕ) → HasUnfinishedOf s x → IsLeftOn (lane_at s (lane_of w x)) x
  left_on_own x left =
      let own = sound.own_lane left.lane left.entry left.unfinished in
      let lane : lane_of w x ≡ left.lane = subst (λ (i : ℕ). lane_of w i ≡ left.lane) left.of_item own.1 in
      (left.entry, subst (λ (p : ℕ). IsUnfinishedOn (lane_at s p) left.entry) (sym lane) left.unfinished, left.of_item)

  -- x is pending unless it is the first
  beside_named : (x : ℕ) → HasUnfinishedOf s x → HasRescuer w (lane_of w x) → (end : ℕ) (hops : List Hop)
      → IsPath w (item_on s (lane_of w x)) hops end → 0 < length hops → (t : ℕ) (qs : List ℕ)
      → In (lane_of w x) qs → (i : ℕ) → In i (named_beside x hops) → IsBeside t qs i
  beside_named x left rescuer end hops path some t qs on i there =
      let is = named_is w x (item_on s (lane_of w x)) end hops path some i there in
      subst (IsBeside t qs) (sym is.0) (record {
        on = on;
        kind = inl (rescuer, left_on_own x left, λ same. is.1 (sym same));
      })

  -- and so are the targets on lanes that have a rescuer
  beside_target : (h : Hop) → IsOnWay h → (t : ℕ) (qs : List ℕ) → In (lane_of w h.flush.item) qs → (i : ℕ)
      → In i (pending_beside w h) → IsBeside t qs i
  beside_target h is t qs on i there =
      let target = target_is h i (subst (λ (l : List ℕ). In i l) (pending_rescued w h is.to) there) in
      let left = is.hop.itself target.0 in
      subst (IsBeside t qs) (sym target.1) (record {
        on = on;
        kind = inl (
          is.to,
          (left.0, left.1, left.2),
          λ same. target.2 (same ∙ sym is.hop.next),
        );
      })

  -- the lane to which a hop leads is left by another one, or is the last
  next_left : (p q : ℕ) (hops : List Hop) → LeadsTo p q hops → lane_of w (item_on s q) ≡ q → (h : Hop)
      → Contains hops h → In (lane_of w h.flush.item) (lanes_from w hops) ⊎ (lane_of w h.flush.item ≡ q)
  next_left p q hops leads own h there =
      let lane = (path_hop w (item_on s p) (item_on s q) hops leads.path h there).1 in
      elim (path_next w (item_on s p) (item_on s q) hops leads.path h there) [
        | inl on ↦ (
            let at = In_item hops h.next on in
            inl (subst (λ (r : ℕ). In r (lanes_from w hops)) (ap (lane_of w) at.2 ∙ lane)
            (lane_In w hops at.0 at.1))
            )
        | inr end ↦ inr (sym lane ∙ ap (lane_of w) end ∙ own)
      ]

  some_left : (p q : ℕ) (hops : List Hop) → LeadsTo p q hops → lane_of w (item_on s p) ≡ p → 0 < length hops
      → In p (lanes_from w hops)
  some_left p q [] leads own some = absurd (omega arith)
  some_left p q (h ∷ hops) leads own some = inl (sym own ∙ ap (lane_of w) (sym leads.path.0))

  -- ---- round

  found_round : (x q : ℕ) → HasUnfinishedOf s x → HasRescuer w (lane_of w x)
      → lane_of w (item_on s (lane_of w x)) ≡ lane_of w x → (hops : List Hop) → LeadsTo (lane_of w x) q hops
      → In q (lanes_from w hops) → Found x
  found_round x q left rescuer own_first hops leads again = (hops, holds_up, leads.apart, steps)
    where
      p : ℕ
      p = lane_of w x

      at : LeavesAt w q hops
      at = leaves_at w q hops again

      there : Contains hops at.hop
      there = subst (λ (l : List Hop). Contains l at.hop) (sym at.parts) (middle at.before at.hop at.after)

      is : IsOnWay at.hop
      is = All-contains IsOnWay hops at.hop leads.each there

      item : item_on s q ≡ at.hop.item
      item = sym (is.hop.item ∙ ap (item_on s) at.lane)

      own : lane_of w (item_on s q) ≡ q
      own = ap (lane_of w) item ∙ at.lane

      holds_up : HoldsUp w x hops
      holds_up =
          let parts = path_parts w (item_on s p) (item_on s q) at.before at.hop at.after
          (subst (λ (l : List Hop). IsPath w (item_on s p) l (item_on s q)) at.parts leads.path) in
          inr (
            item_on s p,
            own_first,
            inl (record {
              way = at.before;
              round = at.hop ∷ at.after;
              at = at.hop.item;
              are = at.parts;
              leads = parts.0;
              some = omega arith;
              goes_round = subst (λ (i : ℕ). IsPath w at.hop.item (at.hop ∷ at.after) i) item parts.1;
            }),
          )

      some : 0 < length hops
      some = omega (
        arith,
        ap (λ (l : List Hop). length l) at.parts,
        length-append at.before (at.hop ∷ at.after),
      )

      beside : (i : ℕ) → In i (pending_for w x hops) → IsBeside 0 (lanes_from w hops) i
      beside i in_once = elim (In-append i (named_beside x hops) (flat_map (pending_beside w) hops)
          (In-once i (named_beside x hops ++ flat_map (pending_beside w) hops) in_once)) [
            | inl named ↦ beside_named x left rescuer (item_on s q) hops leads.path some 0 (lanes_from w hops)
                (some_left p q hops leads own_first some) i named
            | inr later ↦ (
                let h = pending_hop w hops i later in
                let on : In (lane_of w h.0.flush.item) (lanes_from w hops) =
                elim (next_left p q hops leads own h.0 h.1) [
                  | inl on ↦ on
                  | inr end ↦ subst (λ (r : ℕ). In r (lanes_from w hops)) (sym end) again
                ] in
                beside_target h.0 (All-contains IsOnWay hops h.0 leads.each h.1) 0 (lanes_from w hops) on i h.2
                )
          ]

      steps : walk_steps hops (pending_for w x hops) ≤ weight s.lanes
      steps =
          let enough : total (waits_on w) (lanes_from w hops) + length (pending_for w x hops) ≤ weight s.lanes =
          weighs_enough 0 (lanes_from w hops) (pending_for w x hops) leads.apart (left_busy p q hops leads)
          (Apart-once (named_beside x hops ++ flat_map (pending_beside w) hops)) beside in
          omega (
            arith,
            enough,
            total-rescued w (lanes_from w hops) (left_rescued p q hops leads),
            length-lanes_from w hops,
          )

  -- ---- to a bare lane

  found_bare : (x q : ℕ) → HasUnfinishedOf s x → HasRescuer w (lane_of w x)
      → lane_of w (item_on s (lane_of w x)) ≡ lane_of w x → (hops : List Hop) → LeadsTo (lane_of w x) q hops
      → HasRescuer w q → IsBusy (lane_at s q) → Avoids q (lanes_from w hops) → (h : Hop)
      → IsHopFrom w s sound no_step q h → (¬ HasRescuer w (lane_of w h.flush.item)) → Found x
  found_bare x q left rescuer own_first hops leads on busy new h is bare =
      (all, holds_up, all_apart, steps)
    where
      p : ℕ
      p = lane_of w x

      last : Hop
      last = record h { next = h.flush.item }

      all : List Hop
      all = hops ++ (last ∷ [])

      target : ℕ
      target = lane_of w h.flush.item

      hop : IsHop w last
      hop = record { declared = is.declared; rescuer = subst (HasRescuer w) (sym is.own) on }

      way : IsPath w (item_on s p) hops last.item
      way = subst (λ (i : ℕ). IsPath w (item_on s p) hops i) (sym is.item) leads.path

      path : IsPath w (item_on s p) all last.next
      path = IsPath-append w (item_on s p) last.item last.next hops (last ∷ []) way (refl, hop, refl, refl)

      holds_up : HoldsUp w x all
      holds_up = inr (
        item_on s p,
        own_first,
        inr (record {
          way = hops;
          last = last;
          are = refl;
          leads = way;
          to_bare = record { hop = hop; bare = bare; next = refl };
        }),
      )

      all_apart : Apart (lanes_from w all)
      all_apart = Apart-hop w hops last leads.apart
          (subst (λ (r : ℕ). Avoids r (lanes_from w hops)) (sym is.own) new)

      some : 0 < length all
      some = omega (arith, length-append hops (last ∷ []))

      -- the lanes that are left are busy and have a rescuer
      left_lane : (r : ℕ) → In r (lanes_from w all) → HasRescuer w r × IsBusy (lane_at s r)
      left_lane r there =
          elim (In-append r (lanes_from w hops) (lane_of w h.item ∷ [])
          (subst (λ (l : List ℕ). In r l) (lanes_from-append w hops (last ∷ [])) there)) [
            | inl before ↦ (left_rescued p q hops leads r before, left_busy p q hops leads r before)
            | inr here ↦ elim here [
              | inl same ↦ subst (λ (k : ℕ). HasRescuer w k × IsBusy (lane_at s k)) (sym (same ∙ is.own)) (on, busy)
              | inr none ↦ absurd none
            ]
          ]

      qs : List ℕ
      qs = target ∷ lanes_from w all

      qs_apart : Apart qs
      qs_apart = (Avoids-from target (lanes_from w all) (λ there. bare (left_lane target there).0), all_apart)

      qs_busy : (r : ℕ) → In r qs → IsBusy (lane_at s r)
      qs_busy r (inl same) = subst (λ (k : ℕ). IsBusy (lane_at s k)) (sym same) is.busy
      qs_busy r (inr there) = (left_lane r there).1

      last_left : In q (lanes_from w all)
      last_left = subst (λ (l : List ℕ). In q l) (sym (lanes_from-append w hops (last ∷ [])))
          (In-append_right q (lanes_from w hops) (lane_of w h.item ∷ []) (inl (sym is.own)))

      before_left : (r : ℕ) → In r (lanes_from w hops) → In r (lanes_from w all)
      before_left r there = subst (λ (l : List ℕ). In r l) (sym (lanes_from-append w hops (last ∷ [])))
          (In-append_left r (lanes_from w hops) (lane_of w h.item ∷ []) there)

      first_left : In p (lanes_from w all)
      first_left = at hops leads
        where
          at : (hs : List Hop) → LeadsTo p q hs → In p (lanes_from w (hs ++ (last ∷ [])))
          at [] none = inl (sym own_first ∙ ap (lane_of w) (none.path ∙ sym is.item))
          at (g ∷ hs) some_leads = inl (sym own_first ∙ ap (lane_of w) (sym some_leads.path.0))

      beside : (i : ℕ) → In i (pending_for w x all) → IsBeside h.flush.item qs i
      beside i in_once = elim (In-append i (named_beside x all) (flat_map (pending_beside w) all)
          (In-once i (named_beside x all ++ flat_map (pending_beside w) all) in_once)) [
            | inl named ↦ beside_named x left rescuer last.next all path some h.flush.item qs (inr first_left) i named
            | inr later ↦ elim (In-flat_append (pending_beside w) i hops (last ∷ []) later) [
              | inl before ↦ (
                  let g = pending_hop w hops i before in
                  let to : In (lane_of w g.0.flush.item) qs =
                  elim (next_left p q hops leads (own_item q on busy) g.0 g.1) [
                    | inl there ↦ inr (before_left (lane_of w g.0.flush.item) there)
                    | inr end ↦ inr (subst (λ (r : ℕ). In r (lanes_from w all)) (sym end) last_left)
                  ] in
                  beside_target g.0 (All-contains IsOnWay hops g.0 leads.each g.1) h.flush.item qs to i g.2
                  )
              | inr here ↦ (
                  let same : i ≡ h.flush.item =
                  elim (In-append i (pending_beside w last) [] here) [
                    | inl is_target ↦ pending_target w last i is_target
                    | inr none ↦ absurd none
                  ] in
                  record {
                    on = inl (ap (lane_of w) same);
                    kind = inr ((λ has. bare (subst (λ (k : ℕ). HasRescuer w (lane_of w k)) same has)), same);
                  }
                  )
            ]
          ]

      steps : walk_steps all (pending_for w x all) ≤ weight s.lanes
      steps =
          let enough : total (waits_on w) qs + length (pending_for w x all) ≤ weight s.lanes =
          weighs_enough h.flush.item qs (pending_for w x all) qs_apart qs_busy
          (Apart-once (named_beside x all ++ flat_map (pending_beside w) all)) beside in
          omega (
            arith,
            enough,
            total-rescued w (lanes_from w all) (λ r there. (left_lane r there).0),
            length-lanes_from w all,
          )

  -- ---- the search

  one_more : (p q : ℕ) (hops : List Hop) → LeadsTo p q hops → HasRescuer w q → IsBusy (lane_at s q)
      → Avoids q (lanes_from w hops) → (h : Hop) → IsHopFrom w s sound no_step q h
      → HasRescuer w (lane_of w h.flush.item) → LeadsTo p (lane_of w h.flush.item) (hops ++ (h ∷ []))
  one_more p q hops leads on busy new h is to =
      let next : h.next ≡ item_on s (lane_of w h.flush.item) = is.next in
      let own : lane_of w (item_on s (lane_of w h.flush.item)) ≡ lane_of w h.flush.item =
      own_item (lane_of w h.flush.item) to is.busy in
      let hop : IsHop w h = record { declared = is.declared; rescuer = subst (HasRescuer w) (sym is.own) on } in
      let step : IsPath w (item_on s q) (h ∷ []) (item_on s (lane_of w h.flush.item)) =
      (is.item, hop, ap (lane_of w) next ∙ own, next) in
      record {
        path = IsPath-append w (item_on s p) (item_on s q) (item_on s (lane_of w h.flush.item)) hops (h ∷ [])
            leads.path step;
        apart = Apart-hop w hops h leads.apart (subst (λ (r : ℕ). Avoids r (lanes_from w hops)) (sym is.own) new);
        each = All-append IsOnWay hops (h ∷ []) leads.each (All-cons IsOnWay h [] (record {
          hop = subst (λ (r : ℕ). IsHopFrom w s sound no_step r h) (sym is.own) is;
          busy = subst (λ (r : ℕ). IsBusy (lane_at s r)) (sym is.own) busy;
          to = to;
        }) (All-nil IsOnWay));
      }

  module _ (x : ℕ) (left : HasUnfinishedOf s x) (rescuer : HasRescuer w (lane_of w x))
      (own_first : lane_of w (item_on s (lane_of w x)) ≡ lane_of w x) where
    go_on : (fuel q : ℕ) (hops : List Hop) → w.lanes < fuel + length hops → LeadsTo (lane_of w x) q hops
        → HasRescuer w q → IsBusy (lane_at s q) → Found x
    go_on zero q hops enough leads on busy =
        let few : length (lanes_from w hops) ≤ w.lanes = Apart-few w.lanes (lanes_from w hops)
        (lanes_from-below w wiring (item_on s (lane_of w x)) (item_on s q) hops leads.path) leads.apart in
        absurd (omega (arith, few, enough, length-lanes_from w hops))
    go_on (suc fuel) q hops enough leads on busy =
        let hop = hop_from w s sound no_step q on busy in
        let h : Hop = hop.0 in
        by h hop.1 (cases_In q (lanes_from w hops)) (cases_rescuer w (lane_of w h.flush.item)) (λ new to.
        go_on fuel (lane_of w h.flush.item) (hops ++ (h ∷ []))
        (omega (arith, enough, length-append hops (h ∷ [])))
        (one_more (lane_of w x) q hops leads on busy new h hop.1 to) to hop.1.busy)
      where
        by : (h : Hop) → IsHopFrom w s sound no_step q h → In q (lanes_from w hops) ⊎ Avoids q (lanes_from w hops)
            → HasRescuer w (lane_of w h.flush.item) ⊎ (¬ HasRescuer w (lane_of w h.flush.item))
            → (Avoids q (lanes_from w hops) → HasRescuer w (lane_of w h.flush.item) → Found x) → Found x
        by h is (inl again) to rest = found_round x q left rescuer own_first hops leads again
        by h is (inr new) (inr bare) rest =
            found_bare x q left rescuer own_first hops leads on busy new h is bare
        by h is (inr new) (inl to) rest = rest new to

  pub found_for : (x : ℕ) → HasUnfinishedOf s x → Found x
  found_for x left = by (cases_rescuer w (lane_of w x))
    where
      on : IsLeftOn (lane_at s (lane_of w x)) x
      on = left_on_own x left

      busy : IsBusy (lane_at s (lane_of w x))
      busy = (on.0, on.1)

      by : HasRescuer w (lane_of w x) ⊎ (¬ HasRescuer w (lane_of w x)) → Found x
      by (inl rescuer) =
          go_on x left rescuer (own_item (lane_of w x) rescuer busy) (w.lanes + 1) (lane_of w x) [] (omega arith)
          (record { path = refl; apart = tt; each = All-nil IsOnWay }) rescuer busy
      by (inr bare) =
          let one : 1 ≤ lane_weight (lane_at s (lane_of w x)) =
          lane_weight-unfinished (lane_at s (lane_of w x)) on.0 on.1 in
          let all : weight_on s.lanes (lane_of w x ∷ []) ≤ weight s.lanes =
          weight_on-apart s.lanes (lane_of w x ∷ []) (tt, tt) in
          ([], inl (refl, bare), tt, omega (arith, one, all))

-- the same of a run, with any number of helpers: these change neither lanes nor flushes
HoldsUp-without : (w : Wiring) (n x : ℕ) (hops : List Hop) → HoldsUp (with_helpers w n) x hops → HoldsUp w x hops
HoldsUp-without w n x hops (inl none) = inl none
HoldsUp-without w n x hops (inr (first, lane, inl meets)) = inr (
  first,
  lane,
  inl (record {
    way = meets.way;
    round = meets.round;
    at = meets.at;
    are = meets.are;
    leads = IsPath-without w n first meets.way meets.at meets.leads;
    some = meets.some;
    goes_round = IsPath-without w n meets.at meets.round meets.at meets.goes_round;
  }),
)
HoldsUp-without w n x hops (inr (first, lane, inr meets)) = inr (
  first,
  lane,
  inr (record {
    way = meets.way;
    last = meets.last;
    are = meets.are;
    leads = IsPath-without w n first meets.way meets.last.item meets.leads;
    to_bare = record {
      hop = IsHop-without w n meets.last meets.to_bare.hop;
      bare = meets.to_bare.bare;
      next = meets.to_bare.next;
    };
  }),
)

pub walk_for_stuck : (w : Wiring) (named : List ℕ) (n : ℕ) (steps : List Step) → IsWiring w
    → EndsStuckFor w named n steps
    → (x : ℕ) × (hops : List Hop) × IsWalkFor w named x hops × Apart (lanes_from w hops)
    × (walk_steps hops (pending_for w x hops) ≤ length steps)
walk_for_stuck w named n steps wiring (run, stuck) =
    let v : Wiring = with_helpers w n in
    let s : State = end_of v steps in
    let sound = IsSoundState-end_of v steps run in
    let is = found_for v (IsWiring-with_helpers w n wiring) s sound stuck.no_step stuck.item stuck.left in
    let own = sound.own_lane stuck.left.lane stuck.left.entry stuck.left.unfinished in
    let few : weight s.lanes ≤ length steps = weight-end_of v steps in (
      stuck.item,
      is.0,
      record {
        is_named = stuck.is_named;
        item = subst (λ (i : ℕ). i < items w) stuck.left.of_item own.0;
        holds_up = HoldsUp-without w n stuck.item is.0 is.1;
      },
      subst Apart (lanes_from-same v w refl is.0) is.2,
      omega (arith, few, is.3),
    )
