-- Walks of readings: where a run of a reading ends stuck there is one, and a least walk of all flushes is one.
use Rattle.std.proofs.Common.{◌≡◌, ◌↔◌, ℕ, zero, suc, ◌+◌, ◌*◌, ◌<◌, ◌≤◌, inl, inr, Bool, true, false, cond, List, []}
use Rattle.std.proofs.Common.{◌∷◌}
use Rattle.std.proofs.Common.{length, map, refl, sym, ap, subst, ◌∙◌, arith}
use Rattle.std.specs.Prelude.{Contains, not, ◌||◌}
use Rattle.std.specs.List.{All}
use Rattle.std.proofs.lemmas.List.{length-map}
use Rattle.std.proofs.lemmas.List.Elements.{All-contains, All-cons, All-tail, All-filter, filter_passes}
use Rattle.wq_items.specs.declared.target.Target.{Target}
use Rattle.wq_items.specs.Table.{TargetsBelow, max_flushes, targets_of, places}
use Rattle.wq_items.specs.Readings.{is_among, is_kept, kept_of, unsure_places}
use Rattle.wq_items.proofs.Lists.{Contains-filtered, Contains-later}
use Rattle.wq_items.proofs.ReadingLemmas.{targets_of-kept}
use Rattle.wq_groups.specs.Assignment.{max_lanes}
use Rattle.wq_core.specs.declared.step.Step.{Step}
use Rattle.wq_core.specs.Wiring.{Wiring, IsWiring, items, declared_by}
use Rattle.wq_core.specs.Deadlock.{IsSafe}
use Rattle.wq_core.specs.Readings.{reading}
use Rattle.wq_core.proofs.LaneLemmas.{Contains-filter}
use Rattle.wq_core.proofs.MoreFlushes.{reading-all}
use Rattle.wq_hang.specs.declared.hop.Hop.{Hop}
use Rattle.wq_hang.specs.Shortest.{EndsStuck, IsShortestHang, IsFewest}
use Rattle.wq_hang.specs.Walk.{IsHop, IsPath, IsWalk, IsLeastWalk, ArePlacesApart, unsure_hops, those_below, needs}
use Rattle.wq_hang.specs.Walk.{unsure_cost, walk_steps, walk_cost, run_of_walk}
use Rattle.wq_hang.proofs.Apart.{Avoids, Apart, In, Avoids-from, not_in, In-append_left, In-append_right}
use Rattle.wq_hang.proofs.Apart.{Apart-AllPairs}
use Rattle.wq_hang.proofs.Apart.{Apart-right, Apart-across, Apart-within, In-among, among-In, Contains-In}
use Rattle.wq_hang.proofs.Apart.{In-needed, length-needed}
use Rattle.wq_hang.proofs.StuckRounds.{lanes_to, lanes_to-same, IsWalk-stuck}
use Rattle.wq_hang.proofs.LeastWalks.{lanes_from, lanes_from-same, Apart-least}
use Rattle.wq_hang.proofs.WalkRuns.{items_of, item_In}
use Rattle.wq_hang.proofs.Shortest.{items_apart, walk_lanes, walk_hop, length-run_of_walk, walk_hangs, walk_alone}

-- ---- which item a place is of

place_In : (ts : List Target) (t : Target) → Contains ts t → In t.place (map (λ (u : Target). u.place) ts)
place_In [] t (k, lt, at) = absurd (omega arith)
place_In (u ∷ ts) t (zero, lt, at) = inl (ap (λ (x : Target). x.place) (sym at))
place_In (u ∷ ts) t (suc k, lt, at) = inr (place_In ts t (k, omega arith, at))

places_In : (waits : List (List Target)) (i : ℕ) (t : Target) → Contains (targets_of waits i) t
    → In t.place (places waits)
places_In [] i t there = absurd (omega (arith, there.1))
places_In (ts ∷ waits) zero t there =
    In-append_left t.place (map (λ (u : Target). u.place) ts) (places waits) (place_In ts t there)
places_In (ts ∷ waits) (suc i) t there =
    In-append_right t.place (map (λ (u : Target). u.place) ts) (places waits) (places_In waits i t there)

place_item : (waits : List (List Target)) (i j : ℕ) (t u : Target) → Apart (places waits)
    → Contains (targets_of waits i) t
    → Contains (targets_of waits j) u → t.place ≡ u.place → i ≡ j
place_item [] i j t u apart one other same = absurd (omega (arith, one.1))
place_item (ts ∷ waits) zero zero t u apart one other same = refl
place_item (ts ∷ waits) zero (suc j) t u apart one other same =
    let these : List ℕ = map (λ (x : Target). x.place) ts in
    absurd (Apart-across these (places waits) u.place apart (subst (λ (k : ℕ). In k these) same (place_In ts t one))
    (places_In waits j u other))
place_item (ts ∷ waits) (suc i) zero t u apart one other same =
    let these : List ℕ = map (λ (x : Target). x.place) ts in
    absurd (Apart-across these (places waits) t.place apart
    (subst (λ (k : ℕ). In k these) (sym same) (place_In ts u other))
    (places_In waits i t one))
place_item (ts ∷ waits) (suc i) (suc j) t u apart one other same =
    ap suc (place_item waits i j t u (Apart-right (map (λ (x : Target). x.place) ts)
    (places waits) apart) one other same)

-- ---- the places of the unsure flushes by which hops wait

abbrev pub unsure_at : List Hop → List ℕ
unsure_at hops = map (λ (h : Hop). h.flush.place) (unsure_hops hops)

-- one of the hops waits by an unsure flush at this place
abbrev pub WaitsAt : List Hop → ℕ → Type 0
WaitsAt hops p = (h : Hop) × Contains hops h × (h.flush.place ≡ p) × (h.flush.unsure ≡ true)

pub unsure_at-from : (hops : List Hop) (p : ℕ) → In p (unsure_at hops) → WaitsAt hops p
unsure_at-from [] p there = absurd there
unsure_at-from (h ∷ hops) p there =
    by h.flush.unsure refl there (λ (later : In p (unsure_at hops)). unsure_at-from hops p later)
  where
    more : WaitsAt hops p → WaitsAt (h ∷ hops) p
    more (g, there, at, is) = (g, Contains-later h hops g there, at, is)

    by : (u : Bool) → h.flush.unsure ≡ u
        → In p (map (λ (g : Hop). g.flush.place) (cond u (h ∷ unsure_hops hops) (unsure_hops hops)))
        → (In p (unsure_at hops) → WaitsAt hops p) → WaitsAt (h ∷ hops) p
    by true is (inl same) rest = (h, (0, omega arith, refl), sym same, is)
    by true is (inr later) rest = more (rest later)
    by false is later rest = more (rest later)

unsure-first : (h : Hop) (hops : List Hop) (u : Bool) → u ≡ true
    → In h.flush.place (map (λ (g : Hop). g.flush.place) (cond u (h ∷ unsure_hops hops) (unsure_hops hops)))
unsure-first h hops true is = inl refl
unsure-first h hops false is = absurd cc

unsure-later : (h : Hop) (hops : List Hop) (u : Bool) (p : ℕ) → In p (unsure_at hops)
    → In p (map (λ (g : Hop). g.flush.place) (cond u (h ∷ unsure_hops hops) (unsure_hops hops)))
unsure-later h hops true p there = inr there
unsure-later h hops false p there = there

pub unsure_at-has : (hops : List Hop) (h : Hop) → Contains hops h → h.flush.unsure ≡ true
    → In h.flush.place (unsure_at hops)
unsure_at-has [] h (k, lt, at) is = absurd (omega arith)
unsure_at-has (g ∷ hops) h (zero, lt, at) is =
    subst (λ (x : Hop). In x.flush.place (unsure_at (g ∷ hops))) at
    (unsure-first g hops g.flush.unsure (ap (λ (x : Hop). x.flush.unsure) at ∙ is))
unsure_at-has (g ∷ hops) h (suc k, lt, at) is =
    unsure-later g hops g.flush.unsure h.flush.place (unsure_at-has hops h (k, omega arith, at) is)

-- hops of different items wait by different flushes
pub Apart-unsure : (w : Wiring) (hops : List Hop) → Apart (places w.waits)
    → ((h : Hop) → Contains hops h → Contains (declared_by w h.item) h.flush) → Apart (items_of hops)
    → Apart (unsure_at hops)
Apart-unsure w [] apart all once = tt
Apart-unsure w (h ∷ hops) apart all once =
    by h.flush.unsure (Apart-unsure w hops apart (λ g there. all g (Contains-later h hops g there)) once.1)
  where
    avoids : Avoids h.flush.place (unsure_at hops)
    avoids = Avoids-from h.flush.place (unsure_at hops) (λ there.
        let g = unsure_at-from hops h.flush.place there in
        let same : h.item ≡ g.0.item = place_item w.waits h.item g.0.item h.flush g.0.flush apart
        (all h (0, omega arith, refl)) (all g.0 (Contains-later h hops g.0 g.1)) (sym g.2) in
        not_in h.item (items_of hops) once.0
        (subst (λ (i : ℕ). In i (items_of hops)) (sym same) (item_In hops g.0 g.1)))

    by : (u : Bool) → Apart (unsure_at hops)
        → Apart (map (λ (g : Hop). g.flush.place) (cond u (h ∷ unsure_hops hops) (unsure_hops hops)))
    by true rest = (avoids, rest)
    by false rest = rest

Apart-walk : (w : Wiring) (hops : List Hop) (beside : List ℕ) → ArePlacesApart w → IsWalk w hops beside
    → Apart (lanes_from w hops) → Apart (unsure_at hops)
Apart-walk w hops beside are walk apart =
    Apart-unsure w hops (Apart-AllPairs (places w.waits) are.apart)
    (λ h there. (walk_hop w hops beside walk h there).declared)
    (items_apart w hops apart)

-- ---- hops of a reading

pub kept-In : (kept : List ℕ) (t : Target) → t.unsure ≡ true → is_kept kept t ≡ true → In t.place kept
kept-In kept t unsure is = by t.unsure unsure is
  where
    by : (u : Bool) → u ≡ true → (not u || is_among kept t.place) ≡ true → In t.place kept
    by true same h = among-In t.place kept h
    by false same h = absurd cc

pub In-kept : (kept : List ℕ) (t : Target) → (t.unsure ≡ true → In t.place kept) → is_kept kept t ≡ true
In-kept kept t there = by t.unsure refl
  where
    by : (u : Bool) → t.unsure ≡ u → (not u || is_among kept t.place) ≡ true
    by true is = In-among t.place kept (there is)
    by false is = refl

module _ (w : Wiring) (kept : List ℕ) where
  pub IsHop-out : (h : Hop) → IsHop (reading w kept) h → IsHop w h × (is_kept kept h.flush ≡ true)
  IsHop-out h is =
      let ts : List Target = declared_by w h.item in
      let there : Contains (kept_of kept ts) h.flush =
      subst (λ (l : List Target). Contains l h.flush) (targets_of-kept kept w.waits h.item) is.declared in (
        record { declared = Contains-filter (is_kept kept) ts h.flush there; rescuer = is.rescuer },
        All-contains (λ (t : Target). is_kept kept t ≡ true) (kept_of kept ts) h.flush
            (filter_passes (is_kept kept) ts) there,
      )

  pub IsHop-in : (h : Hop) → IsHop w h → is_kept kept h.flush ≡ true → IsHop (reading w kept) h
  IsHop-in h is stays = record {
    declared = subst (λ (l : List Target). Contains l h.flush) (sym (targets_of-kept kept w.waits h.item))
        (Contains-filtered (is_kept kept) (declared_by w h.item) h.flush stays is.declared);
    rescuer = is.rescuer;
  }

  pub IsPath-out : (i j : ℕ) (hops : List Hop) → IsPath (reading w kept) i hops j → IsPath w i hops j
  IsPath-out i j [] path = path
  IsPath-out i j (h ∷ hops) path = (path.0, (IsHop-out h path.1).0, path.2, IsPath-out h.next j hops path.3)

  pub IsPath-in : (i j : ℕ) (hops : List Hop) → IsPath w i hops j
      → ((h : Hop) → Contains hops h → is_kept kept h.flush ≡ true) → IsPath (reading w kept) i hops j
  IsPath-in i j [] path stay = path
  IsPath-in i j (h ∷ hops) path stay = (
    path.0,
    IsHop-in h path.1 (stay h (0, omega arith, refl)),
    path.2,
    IsPath-in h.next j hops path.3 (λ g there. stay g (Contains-later h hops g there)),
  )

  IsWalk-out : (hops : List Hop) (beside : List ℕ) → IsWalk (reading w kept) hops beside → IsWalk w hops beside
  IsWalk-out hops beside (inl (round, same)) =
      inl (
        record {
          some = round.some;
          first = round.first;
          path = IsPath-out round.first round.first hops round.path;
        },
        same,
      )
  IsWalk-out hops beside (inr (h, hop, bare, one, other)) = inr (h, (IsHop-out h hop).0, bare, one, other)

  IsWalk-in : (hops : List Hop) (beside : List ℕ) → IsWalk w hops beside
      → ((h : Hop) → Contains hops h → is_kept kept h.flush ≡ true) → IsWalk (reading w kept) hops beside
  IsWalk-in hops beside (inl (round, same)) stay = inl (
    record { some = round.some; first = round.first; path = IsPath-in round.first round.first hops round.path stay },
    same,
  )
  IsWalk-in hops beside (inr (h, hop, bare, one, other)) stay =
      let there : Contains hops h = subst (λ (l : List Hop). Contains l h) (sym one) (0, omega arith, refl) in
      inr (h, IsHop-in h hop (stay h there), bare, one, other)

kept_below : (n : ℕ) (kept : List ℕ) (waits : List (List Target)) → All (TargetsBelow n) waits
    → All (TargetsBelow n) (map (kept_of kept) waits)
kept_below n kept [] all = λ k d lt. absurd (omega arith)
kept_below n kept (ts ∷ waits) all =
    All-cons (TargetsBelow n) (kept_of kept ts) (map (kept_of kept) waits)
    (All-filter (is_kept kept) (λ (t : Target). t.item < n) ts (all 0 ts (omega arith)))
    (kept_below n kept waits (All-tail (TargetsBelow n) ts waits all))

pub IsWiring-reading : (w : Wiring) (kept : List ℕ) → IsWiring w → IsWiring (reading w kept)
IsWiring-reading w kept is =
    let as_many : items (reading w kept) ≡ items w = length-map w.waits (kept_of kept) in
    record {
      one_lane_each = is.one_lane_each ∙ sym as_many;
      within = is.within;
      targets_are_items = subst (λ (n : ℕ). All (TargetsBelow n) (map (kept_of kept) w.waits)) (sym as_many)
          (kept_below (items w) kept w.waits is.targets_are_items);
      one_order_each = is.one_order_each;
    }

-- ---- where a run of a reading ends stuck

pub walk_of_reading : (w : Wiring) (kept : List ℕ) (n : ℕ) (steps : List Step) → IsWiring w → ArePlacesApart w
    → EndsStuck (reading w kept) n steps
    → (hops : List Hop) × (beside : List ℕ) × IsWalk w hops beside × (length (unsure_hops hops) ≤ length kept)
    × (walk_steps hops beside ≤ length steps)
    × (walk_steps hops beside ≤ 4 * w.lanes)
walk_of_reading w kept n steps wiring are ends =
    let is = IsWalk-stuck (reading w kept) n steps (IsWiring-reading w kept wiring) ends in
    let hops : List Hop = is.0 in
    let walk : IsWalk w hops is.1 = IsWalk-out w kept hops is.1 is.2 in
    let to : Apart (lanes_to w hops) = subst Apart (lanes_to-same (reading w kept) w refl hops) is.5 in
    let apart : Apart (unsure_at hops) = Apart-walk w hops is.1 are walk (walk_lanes w hops is.1 walk to) in
    let few : length (unsure_at hops) ≤ length kept = Apart-within (unsure_at hops) kept apart (λ p there.
    let g = unsure_at-from hops p there in
    let stays : is_kept kept g.0.flush ≡ true =
    (IsHop-out w kept g.0 (walk_hop (reading w kept) hops is.1 is.2 g.0 g.1)).1 in
    subst (λ (q : ℕ). In q kept) g.2 (kept-In kept g.0.flush g.3 stays)) in
    (hops, is.1, walk, omega (arith, few, length-map (unsure_hops hops) (λ (h : Hop). h.flush.place)), is.3, is.4)

pub cost_of_reading : (w : Wiring) (kept : List ℕ) (n : ℕ) (steps : List Step) → IsWiring w → ArePlacesApart w
    → EndsStuck (reading w kept) n steps
    → (hops : List Hop) × (beside : List ℕ) × IsWalk w hops beside
    × (walk_cost hops beside ≤ unsure_cost * length kept + length steps)
cost_of_reading w kept n steps wiring are ends =
    let is = walk_of_reading w kept n steps wiring are ends in
    (is.0, is.1, is.2, omega (arith, is.3, is.4))

-- ---- the reading of a walk

pub needs-those : (n : ℕ) (hops : List Hop) → n ≡ max_flushes → needs hops ≡ those_below n (unsure_at hops)
unfolding needs
needs-those n hops same = ap (λ (k : ℕ). those_below k (unsure_at hops)) (sym same)

place_low : (n : ℕ) (w : Wiring) (hops : List Hop) → n ≡ max_flushes → ArePlacesApart w
    → ((h : Hop) → Contains hops h → Contains (declared_by w h.item) h.flush) → (p : ℕ) → In p (unsure_at hops) → p < n
place_low n w hops same are all p there =
    let g = unsure_at-from hops p there in
    let at : In g.0.flush.place (places w.waits) = places_In w.waits g.0.item g.0.flush (all g.0 g.1) in
    let low : g.0.flush.place < max_flushes =
    All-contains (λ (q : ℕ). q < max_flushes) (places w.waits) g.0.flush.place are.few
    (Contains-In g.0.flush.place (places w.waits) at) in
    omega (arith, low, same, g.2)

pub length-needs : (n : ℕ) (w : Wiring) (hops : List Hop) → n ≡ max_flushes → ArePlacesApart w
    → ((h : Hop) → Contains hops h → Contains (declared_by w h.item) h.flush) → Apart (unsure_at hops)
    → length (needs hops) ≡ length (unsure_hops hops)
length-needs n w hops same are all apart =
    ap (λ (l : List ℕ). length l) (needs-those n hops same)
    ∙ length-needed n (unsure_at hops) apart (place_low n w hops same are all)
    ∙ length-map (unsure_hops hops) (λ (h : Hop). h.flush.place)

pub In-needs : (n : ℕ) (w : Wiring) (hops : List Hop) → n ≡ max_flushes → ArePlacesApart w
    → ((h : Hop) → Contains hops h → Contains (declared_by w h.item) h.flush) → (p : ℕ) → In p (unsure_at hops)
    → In p (needs hops)
In-needs n w hops same are all p there =
    subst (λ (l : List ℕ). In p l) (sym (needs-those n hops same))
    (In-needed n (unsure_at hops) p there (place_low n w hops same are all p there))

-- ---- a least walk

module _ (w : Wiring) (hops : List Hop) (beside : List ℕ) (wiring : IsWiring w) (are : ArePlacesApart w)
    (least : IsLeastWalk w hops beside) where
  declared : (h : Hop) → Contains hops h → Contains (declared_by w h.item) h.flush
  declared h there = (walk_hop w hops beside least.walk h there).declared

  pub one_each : length (needs hops) ≡ length (unsure_hops hops)
  one_each = length-needs max_flushes w hops refl are declared
      (Apart-walk w hops beside are least.walk (Apart-least w hops beside least))

  stays : (h : Hop) → Contains hops h → is_kept (needs hops) h.flush ≡ true
  stays h there = In-kept (needs hops) h.flush (λ unsure.
      In-needs max_flushes w hops refl are declared h.flush.place (unsure_at-has hops h there unsure))

  walk_there : IsWalk (reading w (needs hops)) hops beside
  walk_there = IsWalk-in w (needs hops) hops beside least.walk stays

  apart_there : Apart (lanes_from (reading w (needs hops)) hops)
  apart_there = subst Apart (lanes_from-same w (reading w (needs hops)) refl hops) (Apart-least w hops beside least)

  -- no run of a reading that keeps as few ends stuck sooner
  sooner : (others : List ℕ) → length others ≤ length (needs hops) → (n : ℕ) (more : List Step)
      → EndsStuck (reading w others) n more → length (run_of_walk w hops beside) ≤ length more
  sooner others few n more ends =
      let is = walk_of_reading w others n more wiring are ends in
      let le : walk_cost hops beside ≤ walk_cost is.0 is.1 = least.least is.0 is.1 is.2 in
      omega (arith, le, is.3, is.4, few, one_each, length-run_of_walk w hops beside)

  pub IsFewest-least : w.lanes ≤ max_lanes → IsFewest w (needs hops) (run_of_walk w hops beside)
  IsFewest-least low = record {
    hang = record {
      hangs = λ n few. walk_hangs (reading w (needs hops)) hops beside
          (IsWiring-reading w (needs hops) wiring) walk_there
          apart_there n;
      alone = walk_alone (reading w (needs hops)) hops beside walk_there;
      shortest = λ n few others ends. sooner (needs hops) (omega arith) n others ends;
    };
    fewest = λ others fewer n few more run stuck.
        let is = walk_of_reading w others n more wiring are (run, stuck) in
        let le : walk_cost hops beside ≤ walk_cost is.0 is.1 = least.least is.0 is.1 is.2 in
        absurd (omega (arith, le, is.3, is.5, fewer, low, one_each));
    soonest = λ others as_few n few more ends. sooner others as_few n more ends;
  }

-- ---- without unsure flushes

reading-none : (w : Wiring) (kept : List ℕ) → unsure_places w.waits ≡ [] → reading w kept ≡ w
reading-none w kept none =
    reading-all w kept (λ p h. absurd (let never : is_among [] p ≡ true = ap (λ (l : List ℕ). is_among l p) (sym none)
    ∙ h in cc))

pub IsFewest-sure : (w : Wiring) (kept : List ℕ) (steps : List Step) → unsure_places w.waits ≡ []
    → (IsFewest w kept steps ↔ ((kept ≡ []) × IsShortestHang w steps))
IsFewest-sure w kept steps none = (there kept, λ is. back is.0 is.1)
  where
    there : (ks : List ℕ) → IsFewest w ks steps → (ks ≡ []) × IsShortestHang w steps
    there [] is = (refl, subst (λ (v : Wiring). IsShortestHang v steps) (reading-none w [] none) is.hang)
    there (k ∷ ks) is =
        let hangs : EndsStuck w 0 steps = (subst (λ (v : Wiring). IsShortestHang v steps)
        (reading-none w (k ∷ ks) none) is.hang).hangs 0 (omega arith) in
        let safe : IsSafe w = subst IsSafe (reading-none w [] none) (is.fewest [] (omega arith)) in
        absurd (safe 0 (omega arith) steps hangs.0 hangs.1)

    back : kept ≡ [] → IsShortestHang w steps → IsFewest w kept steps
    back empty is = record {
      hang = subst (λ (v : Wiring). IsShortestHang v steps) (sym (reading-none w kept none)) is;
      fewest = λ others fewer. absurd (omega (arith, fewer, ap (λ (l : List ℕ). length l) empty));
      soonest = λ others as_few n few more ends.
          is.shortest n few more (subst (λ (v : Wiring). EndsStuck v n more) (reading-none w others none) ends);
    }
