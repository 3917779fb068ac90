-- Walks for items in readings, and what is a shortest run by which one of them is held up.
use Rattle.std.proofs.Common.{◌≡◌, ◌↔◌, ℕ, zero, suc, ◌+◌, ◌*◌, ◌<◌, ◌≤◌, ◌⊎◌, inl, inr, Bool, true, false, not, List}
use Rattle.std.proofs.Common.{[]}
use Rattle.std.proofs.Common.{◌∷◌, ◌++◌, length, refl, sym, ap, subst, ◌∙◌, arith}
use Rattle.std.specs.Prelude.{Contains, filter, slice_index_or}
use Rattle.std.specs.List.{All, range_with_len}
use Rattle.std.proofs.lemmas.Bool.{cases_lt}
use Rattle.std.proofs.lemmas.List.{length-map}
use Rattle.std.proofs.lemmas.List.Elements.{All-contains_itself, All-weaker, Contains-append_left}
use Rattle.std.proofs.lemmas.List.Elements.{Contains-append_right}
use Rattle.wq_items.specs.Table.{max_flushes, places}
use Rattle.wq_items.specs.Readings.{is_kept, kept_of}
use Rattle.wq_groups.specs.Assignment.{max_lanes}
use Rattle.wq_core.specs.declared.step.Step.{Step}
use Rattle.wq_core.specs.Wiring.{Wiring, IsWiring, HasRescuer, with_helpers, items, lane_of, declared_by}
use Rattle.wq_core.specs.Runs.{end_of}
use Rattle.wq_core.specs.Deadlock.{IsSafe}
use Rattle.wq_core.specs.MustGoOn.{IsStuckFor, IsSafeFor, rescued_items}
use Rattle.wq_core.specs.Readings.{reading}
use Rattle.wq_core.proofs.GoingOn.{stuck-rescued}
use Rattle.wq_hang.specs.declared.hop.Hop.{Hop}
use Rattle.wq_hang.specs.Shortest.{EndsStuck, IsFewest}
use Rattle.wq_hang.specs.ShortestFor.{EndsStuckFor, IsFewestFor}
use Rattle.wq_hang.specs.Walk.{IsHop, ArePlacesApart, unsure_hops, needs, unsure_cost, walk_steps, run_of_walk}
use Rattle.wq_hang.specs.WalkFor.{HoldsUp, IsWalkFor, IsLeastWalkFor, pending_for, cost_for}
use Rattle.wq_hang.proofs.Apart.{Apart, In, Apart-AllPairs, Apart-within, Apart-few}
use Rattle.wq_hang.proofs.Declared.{declared-item, declared-target}
use Rattle.wq_hang.proofs.LeastWalks.{lanes_from, lanes_from-same, length-lanes_from, lanes_from-below}
use Rattle.wq_hang.proofs.Shortest.{path_hop, items_apart, length-run_of_walk}
use Rattle.wq_hang.proofs.Fewest.{unsure_at, unsure_at-from, unsure_at-has, Apart-unsure, kept-In, In-kept}
use Rattle.wq_hang.proofs.Fewest.{IsHop-out, IsPath-out, IsPath-in, IsHop-in, IsWiring-reading, length-needs, In-needs}
use Rattle.wq_hang.proofs.CutWalks.{leads_from, cut}
use Rattle.wq_hang.proofs.StuckWalks.{length-pending, walk_for_stuck}
use Rattle.wq_hang.proofs.RunsFor.{walk_for_hangs, walk_for_alone}

-- ---- walks are held up by

-- a walk's hops
pub walk_for_hop : (w : Wiring) (x : ℕ) (hops : List Hop) → HoldsUp w x hops → (h : Hop) → Contains hops h → IsHop w h
walk_for_hop w x hops holds h there = elim (leads_from w x hops holds) [
  | inl none ↦ absurd (omega (arith, there.1, ap (λ (l : List Hop). length l) none.0))
  | inr leads ↦ (path_hop w leads.first leads.end hops leads.path h there).0
]

-- which are of items, and lead to items
pub walk_for_items : (w : Wiring) (x : ℕ) (hops : List Hop) → HoldsUp w x hops
    → All (λ (h : Hop). h.item < items w) hops
walk_for_items w x hops holds =
    All-weaker (Contains hops) (λ (h : Hop). h.item < items w)
    (λ h there. declared-item w h.item h.flush (walk_for_hop w x hops holds h there).declared) hops
    (All-contains_itself hops)

pub walk_for_targets : (w : Wiring) (x : ℕ) (hops : List Hop) → IsWiring w → HoldsUp w x hops
    → All (λ (h : Hop). h.flush.item < items w) hops
walk_for_targets w x hops wiring holds =
    All-weaker (Contains hops) (λ (h : Hop). h.flush.item < items w)
    (λ h there. declared-target w h.item h.flush wiring (walk_for_hop w x hops holds h there).declared) hops
    (All-contains_itself hops)

-- as many as the lanes at most
pub few_hops : (w : Wiring) (x : ℕ) (hops : List Hop) → IsWiring w → HoldsUp w x hops → Apart (lanes_from w hops)
    → length hops ≤ w.lanes
few_hops w x hops wiring holds apart = elim (leads_from w x hops holds) [
  | inl none ↦ omega (arith, ap (λ (l : List Hop). length l) none.0)
  | inr leads ↦ omega (
    arith,
    Apart-few w.lanes (lanes_from w hops) (lanes_from-below w wiring leads.first leads.end hops leads.path) apart,
    length-lanes_from w hops,
  )
]

-- the walk of an item is one of each other item on its lane, if that has a rescuer
HoldsUp-lane : (w : Wiring) (x y : ℕ) (hops : List Hop) → HoldsUp w x hops → lane_of w x ≡ lane_of w y
    → HasRescuer w (lane_of w x) → HoldsUp w y hops
HoldsUp-lane w x y hops (inl none) same rescuer = absurd (none.1 rescuer)
HoldsUp-lane w x y hops (inr (first, lane, meets)) same rescuer = inr (first, lane ∙ same, meets)

-- ---- Law: who is held up

pub run_for_walk : (w : Wiring) (named : List ℕ) (x : ℕ) (hops : List Hop) → IsWiring w → IsWalkFor w named x hops
    → (steps : List Step) × EndsStuckFor w named 0 steps
run_for_walk w named x hops wiring walk = elim (cut w x hops walk.holds_up) [
  | inl apart ↦ (
    run_of_walk w hops (pending_for w x hops),
    walk_for_hangs w named x hops wiring walk apart 0,
  )
  | inr shorter ↦ (
    run_of_walk w shorter.0 (pending_for w x shorter.0),
    walk_for_hangs w named x shorter.0 wiring
        (record { is_named = walk.is_named; item = walk.item; holds_up = shorter.1.holds_up })
        shorter.1.apart 0,
  )
]

pub IsSafeFor-no_walk : (w : Wiring) (named : List ℕ) → IsWiring w
    → ((x : ℕ) (hops : List Hop) → ¬ IsWalkFor w named x hops) → IsSafeFor w named
IsSafeFor-no_walk w named wiring none n few steps run stuck =
    let walk = walk_for_stuck w named n steps wiring (run, stuck) in
    none walk.0 walk.1 walk.2

only_one : (i j : ℕ) → Contains (i ∷ []) j → i ≡ j
only_one i j (zero, lt, at) = at
only_one i j (suc k, lt, at) = absurd (omega arith)

pub IsSafeFor-lane : (w : Wiring) (i j : ℕ) → IsWiring w → i < items w → lane_of w i ≡ lane_of w j
    → HasRescuer w (lane_of w i) → IsSafeFor w (i ∷ []) → IsSafeFor w (j ∷ [])
IsSafeFor-lane w i j wiring item same rescuer safe n few steps run stuck =
    let walk = walk_for_stuck w (j ∷ []) n steps wiring (run, stuck) in
    let x : ℕ = walk.0 in
    let is : j ≡ x = only_one j x walk.2.is_named in
    let lane : lane_of w x ≡ lane_of w i = ap (lane_of w) (sym is) ∙ sym same in
    let holds : HoldsUp w i walk.1 = HoldsUp-lane w x i walk.1 walk.2.holds_up lane
    (subst (HasRescuer w) (sym lane) rescuer) in
    let ends = run_for_walk w (i ∷ []) i walk.1 wiring
    (record { is_named = (0, omega arith, refl); item = item; holds_up = holds }) in
    safe 0 (omega arith) ends.0 ends.1.0 ends.1.1

-- ---- readings

module _ (w : Wiring) (kept : List ℕ) where
  HoldsUp-out : (x : ℕ) (hops : List Hop) → HoldsUp (reading w kept) x hops → HoldsUp w x hops
  HoldsUp-out x hops (inl none) = inl none
  HoldsUp-out x hops (inr (first, lane, inl meets)) = inr (
    first,
    lane,
    inl (record {
      way = meets.way;
      round = meets.round;
      at = meets.at;
      are = meets.are;
      leads = IsPath-out w kept first meets.at meets.way meets.leads;
      some = meets.some;
      goes_round = IsPath-out w kept meets.at meets.at meets.round meets.goes_round;
    }),
  )
  HoldsUp-out x hops (inr (first, lane, inr meets)) = inr (
    first,
    lane,
    inr (record {
      way = meets.way;
      last = meets.last;
      are = meets.are;
      leads = IsPath-out w kept first meets.last.item meets.way meets.leads;
      to_bare = record {
        hop = (IsHop-out w kept meets.last meets.to_bare.hop).0;
        bare = meets.to_bare.bare;
        next = meets.to_bare.next;
      };
    }),
  )

  HoldsUp-in : (x : ℕ) (hops : List Hop) → HoldsUp w x hops
      → ((h : Hop) → Contains hops h → is_kept kept h.flush ≡ true) → HoldsUp (reading w kept) x hops
  HoldsUp-in x hops (inl none) stay = inl none
  HoldsUp-in x hops (inr (first, lane, inl meets)) stay =
      let in_all : (h : Hop) → Contains (meets.way ++ meets.round) h → is_kept kept h.flush ≡ true = λ h there.
      stay h (subst (λ (l : List Hop). Contains l h) (sym meets.are) there) in
      inr (
        first,
        lane,
        inl (record {
          way = meets.way;
          round = meets.round;
          at = meets.at;
          are = meets.are;
          leads = IsPath-in w kept first meets.at meets.way meets.leads
              (λ h there. in_all h (Contains-append_left meets.way meets.round h there));
          some = meets.some;
          goes_round = IsPath-in w kept meets.at meets.at meets.round meets.goes_round
              (λ h there. in_all h (Contains-append_right meets.way meets.round h there));
        }),
      )
  HoldsUp-in x hops (inr (first, lane, inr meets)) stay =
      let in_all : (h : Hop) → Contains (meets.way ++ (meets.last ∷ [])) h → is_kept kept h.flush ≡ true = λ h there.
      stay h (subst (λ (l : List Hop). Contains l h) (sym meets.are) there) in
      inr (
        first,
        lane,
        inr (record {
          way = meets.way;
          last = meets.last;
          are = meets.are;
          leads = IsPath-in w kept first meets.last.item meets.way meets.leads
              (λ h there. in_all h (Contains-append_left meets.way (meets.last ∷ []) h there));
          to_bare = record {
            hop = IsHop-in w kept meets.last meets.to_bare.hop
                (in_all meets.last (Contains-append_right meets.way (meets.last ∷ []) meets.last
                (0, omega arith, refl)));
            bare = meets.to_bare.bare;
            next = meets.to_bare.next;
          };
        }),
      )

-- hops of a walk that leaves no lane twice wait by different unsure flushes
Apart-unsure_at : (w : Wiring) (x : ℕ) (hops : List Hop) → ArePlacesApart w → HoldsUp w x hops
    → Apart (lanes_from w hops) → Apart (unsure_at hops)
Apart-unsure_at w x hops are holds apart =
    Apart-unsure w hops (Apart-AllPairs (places w.waits) are.apart)
    (λ h there. (walk_for_hop w x hops holds h there).declared)
    (items_apart w hops apart)

-- what a run of a reading has
pub record IsWalkOf (w : Wiring) (named kept : List ℕ) (steps : List Step) (x : ℕ) (hops : List Hop) : Type 0 where
  pub walk : IsWalkFor w named x hops
  pub few : length (unsure_hops hops) ≤ length kept
  pub steps_few : walk_steps hops (pending_for w x hops) ≤ length steps
  pub steps_low : walk_steps hops (pending_for w x hops) ≤ 4 * w.lanes + 1

pub walk_for_reading : (w : Wiring) (named kept : List ℕ) (n : ℕ) (steps : List Step) → IsWiring w → ArePlacesApart w
    → EndsStuckFor (reading w kept) named n steps
    → (x : ℕ) × (hops : List Hop) × IsWalkOf w named kept steps x hops
walk_for_reading w named kept n steps wiring are ends =
    let is = walk_for_stuck (reading w kept) named n steps (IsWiring-reading w kept wiring) ends in
    let x : ℕ = is.0 in
    let hops : List Hop = is.1 in
    let holds : HoldsUp w x hops = HoldsUp-out w kept x hops is.2.holds_up in
    let lanes : Apart (lanes_from w hops) = subst Apart (lanes_from-same (reading w kept) w refl hops) is.3 in
    let few : length (unsure_at hops) ≤ length kept =
    Apart-within (unsure_at hops) kept (Apart-unsure_at w x hops are holds lanes) (λ p there.
    let g = unsure_at-from hops p there in
    let stays : is_kept kept g.0.flush ≡ true =
    (IsHop-out w kept g.0 (walk_for_hop (reading w kept) x hops is.2.holds_up g.0 g.1)).1 in
    subst (λ (q : ℕ). In q kept) g.2 (kept-In kept g.0.flush g.3 stays)) in
    let below : items (reading w kept) ≡ items w = length-map w.waits (kept_of kept) in (
      x,
      hops,
      record {
        walk = record {
          is_named = is.2.is_named;
          item = subst (λ (k : ℕ). x < k) below is.2.item;
          holds_up = holds;
        };
        few = omega (arith, few, length-map (unsure_hops hops) (λ (h : Hop). h.flush.place));
        steps_few = is.4;
        steps_low = omega (
          arith,
          few_hops w x hops wiring holds lanes,
          length-pending w x hops,
        );
      },
    )

pub cost_for_reading : (w : Wiring) (named kept : List ℕ) (n : ℕ) (steps : List Step) → IsWiring w → ArePlacesApart w
    → EndsStuckFor (reading w kept) named n steps
    → (x : ℕ) × (hops : List Hop) × IsWalkFor w named x hops
    × (cost_for w x hops ≤ unsure_cost * length kept + length steps)
cost_for_reading w named kept n steps wiring are ends =
    let is = walk_for_reading w named kept n steps wiring are ends in
    (is.0, is.1, is.2.walk, omega (arith, is.2.few, is.2.steps_few))

pub walk_for_steps : (w : Wiring) (named : List ℕ) (n : ℕ) (steps : List Step) → IsWiring w
    → EndsStuckFor w named n steps
    → (x : ℕ) × (hops : List Hop) × IsWalkFor w named x hops × (walk_steps hops (pending_for w x hops) ≤ length steps)
walk_for_steps w named n steps wiring ends =
    let is = walk_for_stuck w named n steps wiring ends in
    (is.0, is.1, is.2, is.4)

-- ---- a least walk

-- leaves no lane twice
pub Apart-least_for : (w : Wiring) (named : List ℕ) (x : ℕ) (hops : List Hop) → IsLeastWalkFor w named x hops
    → Apart (lanes_from w hops)
Apart-least_for w named x hops least = elim (cut w x hops least.walk.holds_up) [
  | inl apart ↦ apart
  | inr shorter ↦ (
      let walk : IsWalkFor w named x shorter.0 =
      record { is_named = least.walk.is_named; item = least.walk.item; holds_up = shorter.1.holds_up } in
      absurd (omega (arith, shorter.1.cheaper, least.least x shorter.0 walk))
      )
]

module _ (w : Wiring) (named : List ℕ) (x : ℕ) (hops : List Hop) (wiring : IsWiring w) (are : ArePlacesApart w)
    (least : IsLeastWalkFor w named x hops) where
  lanes_apart : Apart (lanes_from w hops)
  lanes_apart = Apart-least_for w named x hops least

  declared : (h : Hop) → Contains hops h → Contains (declared_by w h.item) h.flush
  declared h there = (walk_for_hop w x hops least.walk.holds_up h there).declared

  pub one_each_for : length (needs hops) ≡ length (unsure_hops hops)
  one_each_for = length-needs max_flushes w hops refl are declared
      (Apart-unsure_at w x hops are least.walk.holds_up lanes_apart)

  stays : (h : Hop) → Contains hops h → is_kept (needs hops) h.flush ≡ true
  stays h there = In-kept (needs hops) h.flush (λ unsure.
      In-needs max_flushes w hops refl are declared h.flush.place (unsure_at-has hops h there unsure))

  as_many : items (reading w (needs hops)) ≡ items w
  as_many = length-map w.waits (kept_of (needs hops))

  walk_there : IsWalkFor (reading w (needs hops)) named x hops
  walk_there = record {
    is_named = least.walk.is_named;
    item = subst (λ (k : ℕ). x < k) (sym as_many) least.walk.item;
    holds_up = HoldsUp-in w (needs hops) x hops least.walk.holds_up stays;
  }

  apart_there : Apart (lanes_from (reading w (needs hops)) hops)
  apart_there = subst Apart (lanes_from-same w (reading w (needs hops)) refl hops) lanes_apart

  -- no run of a reading that keeps as few ends stuck for them sooner
  sooner : (others : List ℕ) → length others ≤ length (needs hops) → (n : ℕ) (more : List Step)
      → EndsStuckFor (reading w others) named n more
      → length (run_of_walk w hops (pending_for w x hops)) ≤ length more
  sooner others few n more ends =
      let is = walk_for_reading w named others n more wiring are ends in
      let le : cost_for w x hops ≤ cost_for w is.0 is.1 = least.least is.0 is.1 is.2.walk in
      omega (
        arith,
        le,
        is.2.few,
        is.2.steps_few,
        few,
        one_each_for,
        length-run_of_walk w hops (pending_for w x hops),
      )

  pub IsFewestFor-least : w.lanes ≤ max_lanes
      → IsFewestFor w named (needs hops) (run_of_walk w hops (pending_for w x hops))
  IsFewestFor-least low = record {
    hang = record {
      hangs = λ n few. walk_for_hangs (reading w (needs hops)) named x hops
          (IsWiring-reading w (needs hops) wiring) walk_there apart_there n;
      alone = walk_for_alone (reading w (needs hops)) named x hops walk_there;
      shortest = λ n few others ends. sooner (needs hops) (omega arith) n others ends;
    };
    fewest = λ others fewer n few more run stuck.
        let is = walk_for_reading w named others n more wiring are (run, stuck) in
        let le : cost_for w x hops ≤ cost_for w is.0 is.1 = least.least is.0 is.1 is.2.walk in
        absurd (omega (arith, le, is.2.few, is.2.steps_low, fewer, low, one_each_for));
    soonest = λ others as_few n few more ends. sooner others as_few n more ends;
  }

-- ---- without names

same_rescued : (w : Wiring) (kept : List ℕ) → rescued_items (reading w kept) ≡ rescued_items w
same_rescued w kept =
    ap (λ (k : ℕ). filter (λ i. not (slice_index_or w.bare (lane_of w i) false)) (range_with_len 0 k))
    (length-map w.waits (kept_of kept))

module _ (w : Wiring) (kept : List ℕ) (n : ℕ) (steps : List Step) where
  abbrev v : Wiring
  v = with_helpers (reading w kept) n

  ends-for : EndsStuck (reading w kept) n steps → EndsStuckFor (reading w kept) (rescued_items w) n steps
  ends-for (run, stuck) = (
    run,
    subst (λ (named : List ℕ). IsStuckFor v named (end_of v steps)) (same_rescued w kept)
        ((stuck-rescued v steps run).0 stuck),
  )

  for-ends : EndsStuckFor (reading w kept) (rescued_items w) n steps → EndsStuck (reading w kept) n steps
  for-ends (run, stuck) = (
    run,
    (stuck-rescued v steps run).1
        (subst (λ (named : List ℕ). IsStuckFor v named (end_of v steps)) (sym (same_rescued w kept)) stuck),
  )

pub IsFewestFor-rescued : (w : Wiring) (kept : List ℕ) (steps : List Step)
    → IsFewestFor w (rescued_items w) kept steps ↔ IsFewest w kept steps
IsFewestFor-rescued w kept steps = (
  (λ is. record {
    hang = record {
      hangs = λ n few. for-ends w kept n steps (is.hang.hangs n few);
      alone = is.hang.alone;
      shortest = λ n few others ends. is.hang.shortest n few others (ends-for w kept n others ends);
    };
    fewest = λ others fewer n few more run stuck.
        let ends = ends-for w others n more (run, stuck) in
        is.fewest others fewer n few more ends.0 ends.1;
    soonest = λ others as_few n few more ends.
        is.soonest others as_few n few more (ends-for w others n more ends);
  }),
  (λ is. record {
    hang = record {
      hangs = λ n few. ends-for w kept n steps (is.hang.hangs n few);
      alone = is.hang.alone;
      shortest = λ n few others ends. is.hang.shortest n few others (for-ends w kept n others ends);
    };
    fewest = λ others fewer n few more run stuck.
        let ends = for-ends w others n more (run, stuck) in
        is.fewest others fewer n few more ends.0 ends.1;
    soonest = λ others as_few n few more ends.
        is.soonest others as_few n few more (for-ends w others n more ends);
  }),
)

-- ---- more items

for-more : (w : Wiring) (named more : List ℕ) (n : ℕ) (steps : List Step)
    → ((i : ℕ) → Contains named i → Contains more i) → EndsStuckFor w named n steps → EndsStuckFor w more n steps
for-more w named more n steps all (run, stuck) = (
  run,
  record {
    item = stuck.item;
    is_named = all stuck.item stuck.is_named;
    left = stuck.left;
    no_step = stuck.no_step;
  },
)

pub no_later : (w : Wiring) (named more kept fewer : List ℕ) (steps others : List Step)
    → ((i : ℕ) → Contains named i → Contains more i) → IsFewestFor w named kept steps
    → IsFewestFor w more fewer others
    → (length fewer < length kept) ⊎ ((length fewer ≡ length kept) × (length others ≤ length steps))
no_later w named more kept fewer steps others all one other =
    by (cases_lt (length kept) (length fewer)) (cases_lt (length fewer) (length kept))
  where
    ends : EndsStuckFor (reading w kept) more 0 steps
    ends = for-more (reading w kept) named more 0 steps all (one.hang.hangs 0 (omega arith))

    by : (length kept < length fewer) ⊎ (length fewer ≤ length kept)
        → (length fewer < length kept) ⊎ (length kept ≤ length fewer)
        → (length fewer < length kept) ⊎ ((length fewer ≡ length kept) × (length others ≤ length steps))
    by (inl too_many) less = absurd (other.fewest kept too_many 0 (omega arith) steps ends.0 ends.1)
    by (inr few) (inl less) = inl less
    by (inr few) (inr as_many) = inr (
      omega (arith, few, as_many),
      other.soonest kept (omega (arith, as_many)) 0 (omega arith) steps ends,
    )
