-- From a busy lane of a stuck state hops lead on, until they lead to a bare lane, or to a lane for the second time.
use Rattle.std.proofs.Common.{◌≡◌, ◌≢◌, ℕ, zero, suc, ◌+◌, ◌*◌, ◌<◌, ◌≤◌, ◌⊎◌, inl, inr, Bool, true, false, cond}
use Rattle.std.proofs.Common.{List, []}
use Rattle.std.proofs.Common.{◌∷◌, length, refl, sym, ap, ap₂, subst, ◌∙◌, arith}
use Rattle.std.specs.Prelude.{flat_map, slice_index, if◌then◌else◌, ⊤}
use Rattle.std.specs.List.{All}
use Rattle.std.proofs.lemmas.Bool.{cases_eq}
use Rattle.std.proofs.lemmas.List.{length-append}
use Rattle.std.proofs.lemmas.List.Elements.{All-nil, All-cons}
use Rattle.wq_core.specs.declared.step.Step.{Step}
use Rattle.wq_core.specs.Wiring.{Wiring, IsWiring, HasRescuer, with_helpers, lane_of}
use Rattle.wq_core.specs.State.{State, lane_at, IsBusy}
use Rattle.wq_core.specs.Rules.{Lawful}
use Rattle.wq_core.specs.Runs.{IsForcedStep, end_of}
use Rattle.wq_core.specs.Held.{IsSoundState}
use Rattle.wq_core.proofs.Sound.{IsSoundState-end_of}
use Rattle.wq_core.proofs.Wirings.{cases_rescuer, lane_of-within, IsWiring-with_helpers}
use Rattle.wq_hang.specs.declared.hop.Hop.{Hop}
use Rattle.wq_hang.specs.Shortest.{EndsStuck}
use Rattle.wq_hang.specs.Walk.{IsHop, IsPath, IsWalk, target_beside, unsure_hops, walk_steps, walk_cost}
use Rattle.wq_hang.specs.Search.{hops_cost}
use Rattle.wq_hang.proofs.Apart.{Avoids, Apart, In, cases_In, not_in, Apart-few}
use Rattle.wq_hang.proofs.Declared.{declared-target, target_beside-most}
use Rattle.wq_hang.proofs.Weights.{lane_weight, lane_weight-unfinished, weight, weight_on, weight_on-apart}
use Rattle.wq_hang.proofs.Weights.{weight-end_of}
use Rattle.wq_hang.proofs.StuckLanes.{item_on, IsHopFrom, hop_from, hop-weight}

-- the lanes to which hops lead
abbrev pub lanes_to : Wiring → List Hop → List ℕ
lanes_to w [] = []
lanes_to w (h ∷ hops) = lane_of w h.flush.item ∷ lanes_to w hops

-- the steps of a walk round, hop by hop
abbrev pub hops_steps : List Hop → ℕ
hops_steps [] = 0
hops_steps (h ∷ hops) = (3 + length (target_beside h)) + hops_steps hops

walk_steps-hops : (hops : List Hop) → walk_steps hops (flat_map target_beside hops) ≡ hops_steps hops
walk_steps-hops [] = refl
walk_steps-hops (h ∷ hops) =
    let rest : walk_steps hops (flat_map target_beside hops) ≡ hops_steps hops = walk_steps-hops hops in
    omega (arith, rest, length-append (target_beside h) (flat_map target_beside hops))

-- what one hop more adds for an unsure flush
pub unsure-more : (u : Bool) (h : Hop) (hops : List Hop)
    → 32768 * length (cond u (h ∷ hops) hops) ≡ (if u then 32768 else 0) + 32768 * length hops
unsure-more true h hops = omega arith
unsure-more false h hops = omega arith

pub walk_cost-hops : (hops : List Hop) → walk_cost hops (flat_map target_beside hops) ≡ hops_cost hops
walk_cost-hops [] = refl
walk_cost-hops (h ∷ hops) =
    let rest : walk_cost hops (flat_map target_beside hops) ≡ hops_cost hops = walk_cost-hops hops in
    omega (
      arith,
      rest,
      length-append (target_beside h) (flat_map target_beside hops),
      unsure-more h.flush.unsure h (unsure_hops hops),
    )

-- each is v, or isn't among these
abbrev Outside : ℕ → List ℕ → List ℕ → Type 0
Outside v visited [] = ⊤
Outside v visited (a ∷ more) = ((a ≡ v) ⊎ Avoids a visited) × Outside v visited more

module _ (w : Wiring) (wiring : IsWiring w) (s : State) (sound : IsSoundState w s) (no_step : (step : Step) → IsForcedStep w step → ¬ Lawful w s step) where
  -- a walk whose run has at most as many steps as the state weighs, and at most 4 for each lane, and which leads to no
  -- lane twice
  abbrev Found : Type 0
  Found = (hops : List Hop) × (beside : List ℕ) × IsWalk w hops beside × (walk_steps hops beside ≤ weight s.lanes)
      × (walk_steps hops beside ≤ 4 * w.lanes)
      × Apart (lanes_to w hops)

  lanes_below : (i j : ℕ) (hops : List Hop) → IsPath w i hops j → All (λ p. p < w.lanes) (lanes_to w hops)
  lanes_below i j [] path = All-nil (λ p. p < w.lanes)
  lanes_below i j (h ∷ hops) path =
      All-cons (λ p. p < w.lanes) (lane_of w h.flush.item) (lanes_to w hops) (lane_of-within w wiring h.flush.item (declared-target w h.item h.flush wiring path.1.declared)) (lanes_below h.next j hops path.3)

  hops_steps-most : (hops : List Hop) → hops_steps hops ≤ 4 * length (lanes_to w hops)
  hops_steps-most [] = omega arith
  hops_steps-most (h ∷ hops) =
      let rest : hops_steps hops ≤ 4 * length (lanes_to w hops) = hops_steps-most hops in
      let most : length (target_beside h) ≤ 1 = target_beside-most h in
      omega arith

  -- hops from lane q to a lane that was visited before, which lead to no other lane twice, nor to one that was visited
  record LeadsBack (q : ℕ) (visited : List ℕ) : Type 0 where
    to : ℕ
    hops : List Hop
    before : In to visited
    path : IsPath w (item_on s q) hops (item_on s to)
    apart : Apart (lanes_to w hops)
    outside : Outside to visited (lanes_to w hops)
    avoids : Avoids q (lanes_to w hops)
    cost : hops_steps hops ≤ weight_on s.lanes (lanes_to w hops)

  found_round : (q : ℕ) (h : Hop) (hops : List Hop) → IsPath w (item_on s q) (h ∷ hops) (item_on s q)
      → Apart (lanes_to w (h ∷ hops)) → hops_steps (h ∷ hops) ≤ weight_on s.lanes (lanes_to w (h ∷ hops)) → Found
  found_round q h hops path apart cost =
      let all : weight_on s.lanes (lanes_to w (h ∷ hops)) ≤ weight s.lanes = weight_on-apart s.lanes (lanes_to w (h ∷ hops)) apart in
      let same : walk_steps (h ∷ hops) (flat_map target_beside (h ∷ hops)) ≡ hops_steps (h ∷ hops) = walk_steps-hops
      (h ∷ hops) in
      let few : length (lanes_to w (h ∷ hops)) ≤ w.lanes = Apart-few w.lanes (lanes_to w (h ∷ hops)) (lanes_below (item_on s q) (item_on s q) (h ∷ hops) path) apart in
      let most : hops_steps (h ∷ hops) ≤ 4 * length (lanes_to w (h ∷ hops)) = hops_steps-most (h ∷ hops) in (
        h ∷ hops,
        flat_map target_beside (h ∷ hops),
        inl
            (record { some = omega arith; first = item_on s q; path = path }, refl),
        omega arith,
        omega arith,
        apart,
      )

  found_bare : (q : ℕ) (h : Hop) → HasRescuer w q → IsHopFrom w s sound no_step q h → (¬ HasRescuer w (lane_of w h.flush.item)) → Found
  found_bare q h rescuer is bare =
      let p : ℕ = lane_of w h.flush.item in
      let other : p ≢ q = λ same. bare (subst (HasRescuer w) (sym same) rescuer) in
      let two : weight_on s.lanes (p ∷ q ∷ []) ≤ weight s.lanes = weight_on-apart s.lanes (p ∷ q ∷ []) ((other, tt), (tt, tt)) in
      let one : 1 ≤ lane_weight (lane_at s p) = lane_weight-unfinished (lane_at s p) is.busy.0 is.busy.1 in
      let three : 3 ≤ lane_weight (lane_at s q) = is.weighs in
      let lane : p < w.lanes = lane_of-within w wiring h.flush.item
      (declared-target w h.item h.flush wiring is.declared) in (
        h ∷ [],
        h.flush.item ∷ [],
        inr (
          h,
          record {
            declared = is.declared;
            rescuer = subst (HasRescuer w)
                (sym is.own) rescuer;
          },
          bare,
          refl,
          refl,
        ),
        omega arith,
        omega arith,
        (tt, tt),
      )

  -- a hop to lane p, with what comes before and after
  hop_on : (q p : ℕ) (h : Hop) → HasRescuer w q → IsHopFrom w s sound no_step q h → lane_of w h.flush.item ≡ p → lane_of w (item_on s p) ≡ p → (hops : List Hop) (j : ℕ) → IsPath w (item_on s p) hops j → IsPath w (item_on s q) (h ∷ hops) j
  hop_on q p h rescuer is to own hops j path =
      let next : h.next ≡ item_on s p = is.next ∙ ap (item_on s) to in (
        is.item,
        record { declared = is.declared; rescuer = subst (HasRescuer w) (sym is.own) rescuer },
        ap (lane_of w) next ∙ own ∙ sym to,
        subst (λ (i : ℕ). IsPath w i hops j) (sym next) path,
      )

  -- the item that runs on a busy lane is on that lane
  own_item : (q : ℕ) → HasRescuer w q → IsBusy (lane_at s q) → lane_of w (item_on s q) ≡ q
  own_item q rescuer busy = let hop = hop_from w s sound no_step q rescuer busy in ap (lane_of w) (sym hop.1.item) ∙ hop.1.own

  lane_exists : (q : ℕ) → HasRescuer w q → IsBusy (lane_at s q) → q < w.lanes
  lane_exists q rescuer busy =
      let hop = hop_from w s sound no_step q rescuer busy in
      let within : lane_of w hop.0.item < w.lanes = lane_of-within w wiring hop.0.item hop.1.exists in
      subst (λ (p : ℕ). p < w.lanes) hop.1.own within

  -- ---- a lane of a round, and what comes after it

  avoids_all : (q v : ℕ) (visited more : List ℕ) → q ≢ v → Outside v (q ∷ visited) more → Avoids q more
  avoids_all q v visited [] other outside = tt
  avoids_all q v visited (a ∷ more) other outside = (here outside.0, avoids_all q v visited more other outside.1)
    where
      here : (a ≡ v) ⊎ Avoids a (q ∷ visited) → q ≢ a
      here (inl is) same = other (same ∙ is)
      here (inr avoids) same = avoids.0 (sym same)

  outside_fewer : (q v : ℕ) (visited more : List ℕ) → Outside v (q ∷ visited) more → Outside v visited more
  outside_fewer q v visited [] outside = tt
  outside_fewer q v visited (a ∷ more) outside = (here outside.0, outside_fewer q v visited more outside.1)
    where
      here : (a ≡ v) ⊎ Avoids a (q ∷ visited) → (a ≡ v) ⊎ Avoids a visited
      here (inl is) = inl is
      here (inr avoids) = inr avoids.1

  -- what is found from lane q, where its hop leads to lane p, from which hops lead back
  join : (q : ℕ) (visited : List ℕ) (h : Hop) → HasRescuer w q → Avoids q visited → IsHopFrom w s sound no_step q h → HasRescuer w (lane_of w h.flush.item) → q ≢ lane_of w h.flush.item → Avoids (lane_of w h.flush.item) visited
      → LeadsBack (lane_of w h.flush.item) (q ∷ visited) → Found ⊎ LeadsBack q visited
  join q visited h rescuer avoids is on other new back = by back.before
    where
      p : ℕ
      p = lane_of w h.flush.item

      path : IsPath w (item_on s q) (h ∷ back.hops) (item_on s back.to)
      path = hop_on q p h rescuer is refl (own_item p on is.busy) back.hops (item_on s back.to) back.path

      cost : hops_steps (h ∷ back.hops) ≤ weight_on s.lanes (lanes_to w (h ∷ back.hops))
      cost =
          let one : 3 + length (target_beside h) ≤ lane_weight (lane_at s p) = hop-weight w s sound no_step q h is on in
          let rest : hops_steps back.hops ≤ weight_on s.lanes (lanes_to w back.hops) = back.cost in
          omega arith

      by : In back.to (q ∷ visited) → Found ⊎ LeadsBack q visited
      by (inl same) = inl (found_round q h back.hops (subst (λ (v : ℕ). IsPath w (item_on s q) (h ∷ back.hops) (item_on s v)) same path) (back.avoids, back.apart) cost)
      by (inr there) =
          let unlike : q ≢ back.to = λ same. not_in q visited avoids (subst (λ (v : ℕ). In v visited) (sym same) there) in
          inr (record {
            to = back.to;
            hops = h ∷ back.hops;
            before = there;
            path = path;
            apart = (back.avoids, back.apart);
            outside = (inr new, outside_fewer q back.to visited (lanes_to w back.hops) back.outside);
            avoids = (other, avoids_all q back.to visited (lanes_to w back.hops) unlike back.outside);
            cost = cost;
          })

  -- ---- the search

  follow : (fuel : ℕ) (q : ℕ) (visited : List ℕ) → w.lanes < fuel + (length visited + 1) → All (λ p. p < w.lanes) (q ∷ visited) → Avoids q visited → Apart visited → HasRescuer w q → IsBusy (lane_at s q)
      → Found ⊎ LeadsBack q visited
  follow zero q visited enough below avoids apart rescuer busy =
      let few : length (q ∷ visited) ≤ w.lanes = Apart-few w.lanes (q ∷ visited) below (avoids, apart) in
      absurd (omega arith)
  follow (suc fuel) q visited enough below avoids apart rescuer busy =
      let hop = hop_from w s sound no_step q rescuer busy in
      let h : Hop = hop.0 in
      by h hop.1 (cases_rescuer w (lane_of w h.flush.item)) (cases_eq q (lane_of w h.flush.item)) (cases_In (lane_of w h.flush.item) visited)
      (λ on new. follow fuel (lane_of w h.flush.item) (q ∷ visited) (omega arith) (All-cons (λ p. p < w.lanes) (lane_of w h.flush.item) (q ∷ visited) (lane_exists (lane_of w h.flush.item) on hop.1.busy) below) new (avoids, apart) on hop.1.busy)
    where
      by : (h : Hop) → IsHopFrom w s sound no_step q h → HasRescuer w (lane_of w h.flush.item) ⊎ (¬ HasRescuer w (lane_of w h.flush.item)) → (q ≡ lane_of w h.flush.item) ⊎ (q ≢ lane_of w h.flush.item)
          → In (lane_of w h.flush.item) visited ⊎ Avoids (lane_of w h.flush.item) visited
          → (HasRescuer w (lane_of w h.flush.item) → Avoids (lane_of w h.flush.item) (q ∷ visited) → Found ⊎ LeadsBack (lane_of w h.flush.item) (q ∷ visited))
          → Found ⊎ LeadsBack q visited
      by h is (inr bare) same there on = inl (found_bare q h rescuer is bare)
      by h is (inl has) (inl same) there on =
          let cost : 3 + length (target_beside h) ≤ lane_weight (lane_at s (lane_of w h.flush.item)) = hop-weight w s sound no_step q h is has in
          inl (found_round q h [] (hop_on q q h rescuer is (sym same) (own_item q rescuer busy) [] (item_on s q) refl) (tt, tt) (omega arith))
      by h is (inl has) (inr other) (inl there) on =
          let p : ℕ = lane_of w h.flush.item in
          let cost : 3 + length (target_beside h) ≤ lane_weight (lane_at s p) = hop-weight w s sound no_step q h is has in
          inr (record {
            to = p;
            hops = h ∷ [];
            before = there;
            path = hop_on q p h rescuer is refl (own_item p has is.busy) [] (item_on s p) refl;
            apart = (tt, tt);
            outside = (inl refl, tt);
            avoids = (other, tt);
            cost = omega arith;
          })
      by h is (inl has) (inr other) (inr new) on = elim (on has ((λ same. other (sym same)), new)) [
        | inl found ↦ inl found
        | inr back ↦ join q visited h rescuer avoids is has other new back
      ]

  pub found : (q : ℕ) → HasRescuer w q → IsBusy (lane_at s q) → Found
  found q rescuer busy =
      elim (follow w.lanes q [] (omega arith) (All-cons (λ p. p < w.lanes) q [] (lane_exists q rescuer busy) (All-nil (λ p. p < w.lanes))) tt tt rescuer busy) [
        | inl is ↦ is
        | inr back ↦ absurd back.before
      ]

-- a hop of a wiring is one under any number of helpers
pub IsHop-without : (w : Wiring) (n : ℕ) (h : Hop) → IsHop (with_helpers w n) h → IsHop w h
IsHop-without w n h is = record { declared = is.declared; rescuer = is.rescuer }

pub IsPath-without : (w : Wiring) (n : ℕ) (i : ℕ) (hops : List Hop) (j : ℕ) → IsPath (with_helpers w n) i hops j
    → IsPath w i hops j
IsPath-without w n i [] j path = path
IsPath-without w n i (h ∷ hops) j path = (path.0, IsHop-without w n h path.1, path.2, IsPath-without w n h.next hops j path.3)

IsWalk-without : (w : Wiring) (n : ℕ) (hops : List Hop) (beside : List ℕ) → IsWalk (with_helpers w n) hops beside → IsWalk w hops beside
IsWalk-without w n hops beside (inl round) =
    inl (record { some = round.0.some; first = round.0.first; path = IsPath-without w n round.0.first hops round.0.first round.0.path }, round.1)
IsWalk-without w n hops beside (inr bare) = inr (bare.0, IsHop-without w n bare.0 bare.1, bare.2, bare.3, bare.4)

-- which lanes hops lead to doesn't depend on what else is declared
pub lanes_to-same : (v w : Wiring) → v.lane_of_item ≡ w.lane_of_item → (hops : List Hop)
    → lanes_to v hops ≡ lanes_to w hops
lanes_to-same v w same [] = refl
lanes_to-same v w same (h ∷ hops) =
    ap₂ (λ (q : ℕ) (qs : List ℕ). q ∷ qs) (ap (λ (l : List ℕ). slice_index l h.flush.item) same)
    (lanes_to-same v w same hops)

pub IsWalk-stuck : (w : Wiring) (n : ℕ) (steps : List Step) → IsWiring w → EndsStuck w n steps
    → (hops : List Hop) × (beside : List ℕ) × IsWalk w hops beside × (walk_steps hops beside ≤ length steps)
    × (walk_steps hops beside ≤ 4 * w.lanes)
    × Apart (lanes_to w hops)
IsWalk-stuck w n steps wiring (run, stuck) =
    let v : Wiring = with_helpers w n in
    let s : State = end_of v steps in
    let is = found v (IsWiring-with_helpers w n wiring) s (IsSoundState-end_of v steps run) stuck.no_step stuck.left.lane stuck.rescuer (stuck.left.entry, stuck.left.unfinished) in
    let few : weight s.lanes ≤ length steps = weight-end_of v steps in (
      is.0,
      is.1,
      IsWalk-without w n is.0 is.1 is.2,
      omega (arith, is.3, few),
      is.4,
      subst Apart (lanes_to-same v w refl is.0) is.5,
    )
