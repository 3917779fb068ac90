-- What is printed around fixed workqueues shows what it says.
use Rattle.std.proofs.Common.{◌≡◌, ◌≢◌, ℕ, zero, suc, ◌+◌, ◌-◌, ◌<◌, ◌≤◌, ◌==◌, inl, inr, Bool, true, false, not, cond}
use Rattle.std.proofs.Common.{List, [], ◌∷◌, length, map, get_or, Option, Some, None, refl, sym, ap, ap₂, subst, ◌∙◌}
use Rattle.std.proofs.Common.{arith}
use Rattle.std.specs.Prelude.{Contains, nat_le, option_map, slice_get, slice_index, unwrap_or}
use Rattle.std.specs.List.{All, position_or_len}
use Rattle.std.proofs.lemmas.Bool.{and_parts, both_ways, cases_Bool, cases_eq, cases_lt, eq-eqb, eqb-true, false≢true}
use Rattle.std.proofs.lemmas.Bool.{le-leb, lt-ltb, ne_eqb}
use Rattle.std.proofs.lemmas.List.{length-map}
use Rattle.std.proofs.lemmas.List.Elements.{All-contains, Contains-get_or}
use Rattle.std.proofs.lemmas.List.FromFn.{length-map-range_with_len}
use Rattle.std.proofs.lemmas.List.Sums.{fails_before_first, passes_at_first, sum_by-cons}
use Rattle.std.proofs.lemmas.Option.{slice_get-get_or, slice_get-map, slice_get_within}
use Rattle.wq_items.specs.Table.{ItemWaits}
use Rattle.wq_items.specs.Chain.{Circle}
use Rattle.wq_items.proofs.Tables.{ItemWaits-below, ItemWaits-item}
use Rattle.wq_groups.specs.Assignment.{item_lanes}
use Rattle.wq_groups.specs.Declaration.{Declaration, IsDeclaration}
use Rattle.wq_groups.specs.DeclaredGroups.{declared_waits, Declared, IsSound}
use Rattle.wq_groups.proofs.Declarations.{awaited-item, waiting-item}
use Rattle.wq_groups.proofs.Lanes.{item_lanes-at}
use Rattle.wq_graph.specs.declared.arc.WaitArc.{WaitArc}
use Rattle.wq_graph.specs.Graph.{HasArc, IsArc, IsGraph, arcs_at, arcs_from, lane_graph}
use Rattle.wq_graph.proofs.Graphs.{AreArcsFrom-lane_graph, IsGraph-lane_graph}
use Rattle.wq_graph.proofs.LeavingOut.{Contains-without, HasArc-without, IsGraph-without, length-without}
use Rattle.wq_levels.specs.Walks.{LeadsRound}
use Rattle.wq_levels.proofs.Ranks.{AreRanks-fall}
use Rattle.wq_levels.proofs.Walks.{LeadsRound-walked}
use Rattle.wq_core.specs.Wiring.{HasRescuer, IsWiring, RescuedWaits, Wiring, lane_of}
use Rattle.wq_core.specs.Workqueues.{Workqueues, wiring_of}
use Rattle.wq_core.proofs.BareWaits.{Deadlocks-bare}
use Rattle.wq_core.proofs.CircleKnots.{Deadlocks-rescued_circle}
use Rattle.wq_core.proofs.LaneCircles.{Circle-map}
use Rattle.wq_core.proofs.Wirings.{lane_of-within}
use Rattle.wq_deadlock.specs.Judging.{bare_waits, is_on_bare, rescued_graph}
use Rattle.wq_deadlock.proofs.BareLanes.{IsArc-bare_waits, IsWiring-workqueues}
use Rattle.wq_deadlock.proofs.Renumbered.{not_safe-deadlocks}
use Rattle.wq_deadlock.proofs.Verdicts.{HasArc-items}
use Rattle.wq_fixed.specs.Fixed.{Fixed, IsFixed, fixed_lanes, free_groups, new_among, start}
use Rattle.wq_fixed.proofs.ChainsOfStart.{Circle-fewer}
use Rattle.wq_fixed.proofs.Kept.{lane_now, waits_here}
use Rattle.wq_fixed.proofs.StartKeeps.{Keeps-start}
use Rattle.wq_cert.specs.AroundReading.{AroundPlan}
use Rattle.wq_cert.specs.Ranges.{IsArcOf}
use Rattle.wq_cert.proofs.PrintedPlans.{chain_length}
use Rattle.wq_checker.specs.Chains.{before_from, before_in_chain, before_in_circle}
use Rattle.wq_checker.specs.Around.{AllFallAround, AllJoinAround, AllJoinIn, IsGoodPlanAround, JoinsIn, LacksFree}
use Rattle.wq_checker.specs.Around.{LeadsToNone, lanes_along, new_along, place_in, start_wiring}
use Rattle.wq_checker.proofs.GroupChains.{before_from-next}
use Rattle.wq_checker.proofs.LaneChains.{IsChain-joined, lanes-within}
use Rattle.wq_around.specs.Around.{IsChainOf, IsCircledAround, IsHeldByNone, IsPlannedAround, new_lanes}
use Rattle.wq_around.specs.Down.{LeadsDown}
use Rattle.wq_around.specs.Heights.{start_graph}
use Rattle.wq_around.specs.Order.{ComesBefore}
use Rattle.wq_around.proofs.Descents.{down-above}
use Rattle.wq_commands.specs.Answer.{ends_of}
use Rattle.wq_commands.proofs.AnswerLemmas.{IsDeclaration-sound}
use Rattle.wq_around_command.proofs.PlannedLemmas.{ArePrintable-planned, assigned-start, few-down}
use Rattle.wq_around_command.proofs.PrintedAround.{few_different}

-- ---- lists

some_same : (a b : ℕ × ℕ) → Some a ≡ Some b → a ≡ b
some_same a b e = cc

not_none : (b : ℕ × ℕ) → None ≡ Some b → ⊥
not_none b e = absurd cc

not_true : (b : Bool) → not b ≡ true → b ≡ false
not_true true e = absurd cc
not_true false e = refl

-- in place of an arc that isn't there
abbrev nothing : WaitArc
nothing = record { src = 0; dst = 0; head = 0; place = 0 }

-- what comes before an arc that isn't the first
before_later : (first : Option (ℕ × ℕ)) (arcs : List (ℕ × ℕ)) (k : ℕ)
    → before_from first arcs (suc k) ≡ slice_get arcs k
before_later first arcs k =
    ap (λ (b : Bool). cond b first (slice_get arcs (suc k - 1))) (ne_eqb (suc k) 0 (λ e. omega (arith, e)))
    ∙ ap (slice_get arcs) (let e : suc k - 1 ≡ k = omega arith in e)

-- the lane at the place of lane q in an order with q is q
record IsPlaceOf (order : List ℕ) (q : ℕ) : Type 0 where
  within : place_in order q < length order
  at : get_or order (place_in order q) 0 ≡ q

place_of : (order : List ℕ) (q : ℕ) → Contains order q → IsPlaceOf order q
place_of order q (i, within, at) =
    let test : ℕ → Bool = λ p. p == q in
    let n : ℕ = position_or_len test order in
    let inside : n < length order = elim (cases_lt i n) [
      | inl early ↦ absurd
          (both_ways (test (get_or order i q)) (fails_before_first test order i q early)
          (eq-eqb (get_or order i q) q at))
      | inr late ↦ omega (arith, late, within)
    ] in
    let place : place_in order q ≡ n =
    ap (λ (b : Bool). unwrap_or (cond b (Some n) None) (length order)) (lt-ltb n (length order) inside) in
    record {
      within = omega (arith, place, inside);
      at = ap (λ (k : ℕ). get_or order k 0) place
          ∙ eqb-true (get_or order n 0) q (passes_at_first test order 0 inside);
    }

module _ (s : Declared) (sound : IsSound s) (f : Fixed) (fixed : IsFixed s.partition.groups f) where
  abbrev d : Declaration
  d = declared_waits s

  abbrev graph : List (List WaitArc)
  graph = start_graph d f

  -- the wiring of the start
  abbrev w : Wiring
  w = start_wiring d f

  declaration : IsDeclaration d
  declaration = IsDeclaration-sound s sound

  starts : IsWiring w
  starts = IsWiring-workqueues d (start f) declaration (assigned-start s sound f fixed).assignment

  -- ---- arcs of the start

  -- the arc is that of a flush from lane v to its head, and both have a rescuer
  record IsStartArc (v : ℕ) (a : WaitArc) : Type 0 where
    waits : ItemWaits d.waits a.src a.dst
    tail : lane_of w a.src ≡ v
    head : lane_of w a.dst ≡ a.head
    from : HasRescuer w v
    to : HasRescuer w a.head

  start_arc : (v : ℕ) (a : WaitArc) → Contains (arcs_at graph v) a → IsStartArc v a
  start_arc v a there =
      let lanes : List ℕ = item_lanes (start f).assignment d.group_of in
      let all = AreArcsFrom-lane_graph d (start f).assignment declaration
      (assigned-start s sound f fixed).assignment v in
      let kept = Contains-without f.bare (lane_graph d (start f).assignment) v a there in
      let own = All-contains (λ (b : WaitArc). IsArc d.waits lanes b × (slice_index lanes b.src ≡ v))
      (arcs_at (lane_graph d (start f).assignment) v) a all.declared kept.2 in
      let flush = own.0.declared in
      record {
        waits = (flush.0, flush.1, flush.2, flush.3, flush.4.0);
        tail = own.1;
        head = sym own.0.head;
        from = kept.0;
        to = kept.1;
      }

  -- it joins an arc that leads to lane v
  joins_arc : (v : ℕ) (a : WaitArc) → IsStartArc v a → (before : Option (ℕ × ℕ))
      → ((b : ℕ × ℕ) → before ≡ Some b → lane_of w b.1 ≡ v) → JoinsIn w before (ends_of a)
  joins_arc v a is before leads = record {
    declared = is.waits;
    from = subst (λ (q : ℕ). HasRescuer w q) (sym is.tail) is.from;
    to = subst (λ (q : ℕ). HasRescuer w q) (sym is.head) is.to;
    joined = λ b e. leads b e ∙ sym is.tail;
  }

  -- ---- a circle

  module _ (circle : List WaitArc) (circled : IsCircledAround d f circle) where
    abbrev round_arcs : List (ℕ × ℕ)
    round_arcs = map ends_of circle

    abbrev at : ℕ → WaitArc
    at k = get_or circle k nothing

    ends_at : (k : ℕ) → k < length circle → slice_get round_arcs k ≡ Some (ends_of (at k))
    ends_at k within =
        slice_get-map ends_of circle k
        ∙ ap (λ (o : Option WaitArc). option_map ends_of o)
        (slice_get-get_or circle k nothing within)

    joined_round : AllJoinAround d f (before_in_circle round_arcs) round_arcs
    joined_round k arc stands =
        let within : k < length circle =
        omega (arith, slice_get_within round_arcs k arc stands, length-map circle ends_of) in
        subst (JoinsIn w (before_in_circle round_arcs k))
        (some_same (ends_of (at k)) arc (sym (ends_at k within) ∙ stands)) (joins k within)
      where
        round : LeadsRound graph circle
        round = LeadsRound-walked graph circle circled.walked

        leaves : (k : ℕ) → k < length circle → IsStartArc (slice_index round.left k) (at k)
        leaves k within = start_arc (slice_index round.left k) (at k) (round.leaves k nothing within)

        -- where the arc at k leads to
        leads_on : (k : ℕ) → k < length circle → (b : ℕ × ℕ) → slice_get round_arcs k ≡ Some b
            → lane_of w b.1 ≡ (at k).head
        leads_on k within b e =
            ap (λ (x : ℕ × ℕ). lane_of w x.1) (sym (some_same (ends_of (at k)) b (sym (ends_at k within) ∙ e)))
            ∙ (leaves k within).head

        joins : (k : ℕ) → k < length circle → JoinsIn w (before_in_circle round_arcs k) (ends_of (at k))
        joins zero within =
            let last : length round_arcs - 1 ≡ length circle - 1 = omega (arith, length-map circle ends_of) in
            let inside : length circle - 1 < length circle = omega (arith, within) in
            joins_arc (slice_index round.left 0) (at 0) (leaves 0 within)
            (slice_get round_arcs (length round_arcs - 1))
            (λ b e. leads_on (length circle - 1) inside b (ap (slice_get round_arcs) (sym last) ∙ e)
            ∙ round.closes nothing)
        joins (suc k) within =
            let inside : k < length circle = omega (arith, within) in
            let next : k + 1 ≡ suc k = omega arith in
            joins_arc (slice_index round.left (suc k)) (at (suc k)) (leaves (suc k) within)
            (before_in_circle round_arcs (suc k))
            (λ b e. leads_on k inside b
            (sym (before_later (slice_get round_arcs (length round_arcs - 1)) round_arcs k) ∙ e)
            ∙ round.joined k nothing (omega (arith, within)) ∙ ap (slice_index round.left) next)

    pub AllJoinAround-circled : AllJoinAround d f (before_in_circle (map ends_of circle)) (map ends_of circle)
    AllJoinAround-circled = joined_round

    pub some_arcs : 0 < length (map ends_of circle)
    some_arcs = some circle circled.walked.some
      where
        some : (arcs : List WaitArc) → arcs ≢ [] → 0 < length (map ends_of arcs)
        some [] none = absurd (none refl)
        some (a ∷ arcs) none = omega arith

  -- ---- a flush to no rescuer

  pub LeadsToNone-held : (arc : WaitArc) → IsHeldByNone d f arc → LeadsToNone d f (ends_of arc)
  LeadsToNone-held arc held =
      let assignment = (assigned-start s sound f fixed).assignment in
      let there : Contains (bare_waits d (start f)) arc =
      subst (λ (l : List WaitArc). Contains l arc) (sym held.first) (0, omega arith, refl) in
      let (is, passes) = IsArc-bare_waits d (start f) declaration assignment arc there in
      let flush = is.declared in
      let waits : ItemWaits d.waits arc.src arc.dst = (flush.0, flush.1, flush.2, flush.3, flush.4.0) in
      let ends = and_parts (not (is_on_bare (start f) d.group_of arc.src)) (is_on_bare (start f) d.group_of arc.dst)
      passes in
      let src : get_or f.bare (lane_of w arc.src) false ≡ is_on_bare (start f) d.group_of arc.src =
      ap (λ (q : ℕ). get_or f.bare q false)
      (item_lanes-at (start f).assignment d.group_of arc.src (waiting-item d declaration arc.src arc.dst waits)) in
      let dst : get_or f.bare (lane_of w arc.dst) false ≡ is_on_bare (start f) d.group_of arc.dst =
      ap (λ (q : ℕ). get_or f.bare q false)
      (item_lanes-at (start f).assignment d.group_of arc.dst (awaited-item d declaration arc.src arc.dst waits)) in
      record {
        declared = waits;
        from = src ∙ not_true (is_on_bare (start f) d.group_of arc.src) ends.0;
        to = λ rescuer. false≢true (sym rescuer ∙ dst ∙ ends.1);
      }

  -- ---- a chain that leads down

  module _ (heights : List ℕ) where
    joined_down : (q : ℕ) (chain : List WaitArc) → LeadsDown graph (fixed_lanes f) heights q chain
        → (first : Option (ℕ × ℕ)) → ((b : ℕ × ℕ) → first ≡ Some b → lane_of w b.1 ≡ q)
        → AllJoinIn w (before_from first (map ends_of chain)) (map ends_of chain)
    joined_down q [] down first leads k arc stands = absurd (omega (arith, slice_get_within [] k arc stands))
    joined_down q (a ∷ chain) (there, falls, some, down) first leads zero arc stands =
        subst (JoinsIn w first) (some_same (ends_of a) arc stands)
        (joins_arc q a (start_arc q a there) first leads)
    joined_down q (a ∷ chain) (there, falls, some, down) first leads (suc k) arc stands =
        let is = start_arc q a there in
        subst (λ (o : Option (ℕ × ℕ)). JoinsIn w o arc)
        (sym (before_from-next first (ends_of a) (map ends_of chain) k))
        (joined_down a.head chain down (Some (ends_of a))
        (λ b e. ap (λ (x : ℕ × ℕ). lane_of w x.1) (sym (some_same (ends_of a) b e)) ∙ is.head) k arc stands)

    targets_down : (q : ℕ) (chain : List WaitArc) → LeadsDown graph (fixed_lanes f) heights q chain
        → map (λ (x : ℕ × ℕ). lane_of w x.1) (map ends_of chain) ≡ map (λ (b : WaitArc). b.head) chain
    targets_down q [] down = refl
    targets_down q (a ∷ chain) (there, falls, some, down) =
        ap₂ (λ (x : ℕ) (xs : List ℕ). x ∷ xs) (start_arc q a there).head (targets_down a.head chain down)

    lanes_down : (q : ℕ) (a : WaitArc) (chain : List WaitArc)
        → LeadsDown graph (fixed_lanes f) heights q (a ∷ chain)
        → lanes_along d f (map ends_of (a ∷ chain)) ≡ q ∷ map (λ (b : WaitArc). b.head) (a ∷ chain)
    lanes_down q a chain down =
        ap₂ (λ (x : ℕ) (xs : List ℕ). x ∷ xs) (start_arc q a down.0).tail (targets_down q (a ∷ chain) down)

    -- it has as many new lanes as the height says where it begins
    new_down : (q : ℕ) (chain : List WaitArc) → LeadsDown graph (fixed_lanes f) heights q chain
        → new_among f (q ∷ map (λ (b : WaitArc). b.head) chain) ≡ slice_index heights q
    new_down q [] down = ap (λ (b : Bool). 0 + cond b 1 0) (le-leb (fixed_lanes f) q down.0) ∙ sym down.1
    new_down q (a ∷ chain) (there, falls, some, down) =
        let lanes : List ℕ = map (λ (b : WaitArc). b.head) (a ∷ chain) in
        let first : new_among f (q ∷ lanes) ≡ cond (nat_le (fixed_lanes f) q) 1 0 + new_among f lanes =
        sum_by-cons (λ x. cond (nat_le (fixed_lanes f) x) 1 0) q lanes in
        let rest : new_among f lanes ≡ slice_index heights a.head = new_down a.head chain down in
        omega (arith, first, rest, falls)

  -- ---- a plan

  module _ (ws : Workqueues) (order : List ℕ) (chain : List WaitArc) (is : IsPlannedAround d f ws order chain) where
    abbrev many : ℕ
    many = new_lanes f ws

    abbrev arcs : List (ℕ × ℕ)
    arcs = map ends_of chain

    -- what is read of the text of the plan
    abbrev pub plan : AroundPlan
    plan = record { assignment = ws.assignment; order = order; length = chain_length many arcs; arcs = arcs }

    -- the arcs of a chain follow one another
    joined : AllJoinAround d f (before_in_chain arcs) arcs
    joined = joined_chain chain is.chain
      where
        joined_chain : (chain : List WaitArc) → IsChainOf d f many chain
            → AllJoinAround d f (before_in_chain (map ends_of chain)) (map ends_of chain)
        joined_chain chain (inl (none, empty)) =
            subst (λ (l : List WaitArc). AllJoinAround d f (before_in_chain (map ends_of l)) (map ends_of l))
            (sym empty)
            (λ k arc stands. absurd (omega (arith, slice_get_within [] k arc stands)))
        joined_chain chain (inr (heights, are, best)) =
            joined_down heights best.down.first chain best.down.down None (λ b e. absurd (not_none b e))

    -- there is an arc only if some lane is new
    pub none_new : many ≡ 0 → arcs ≡ []
    none_new zero_new = none_in is.chain
      where
        none_in : IsChainOf d f many chain → map ends_of chain ≡ []
        none_in (inl (none, empty)) = ap (map ends_of) empty
        none_in (inr (heights, are, best)) =
            absurd (omega (
              arith,
              zero_new,
              best.down.highest,
              down-above graph (fixed_lanes f) heights best.down.first chain best.down.down,
            ))

    pub short_chain : length arcs ≤ 4095
    short_chain = short_in is.chain
      where
        short_in : IsChainOf d f many chain → length (map ends_of chain) ≤ 4095
        short_in (inl (none, empty)) =
            omega (arith, length-map chain ends_of, ap (λ (l : List WaitArc). length l) empty)
        short_in (inr (heights, are, best)) =
            omega (
              arith,
              length-map chain ends_of,
              few-down s sound f fixed ws is.least heights best.down.first chain best.down.down,
            )

    pub known_arcs : All (IsArcOf (length s.table.names)) arcs
    known_arcs = (ArePrintable-planned s sound f fixed ws order chain arcs is refl).items

    -- as many new lanes as the plan has
    long : new_along d f (chain_length many arcs) arcs ≡ many
    long = long_of chain is.chain
      where
        long_of : (chain : List WaitArc) → IsChainOf d f many chain
            → new_along d f (chain_length many (map ends_of chain)) (map ends_of chain) ≡ many
        long_of [] (inl (none, empty)) = ap (λ (b : Bool). cond b 0 1) (eq-eqb many 0 none) ∙ sym none
        long_of [] (inr (heights, are, best)) =
            let one : many ≡ 1 = sym best.down.highest ∙ best.down.down.1 in
            ap (λ (b : Bool). cond b 0 1) (ne_eqb many 0 (λ e. omega (arith, e, one))) ∙ sym one
        long_of (a ∷ chain) (inl (none, empty)) = absurd (omega (arith, ap (λ (l : List WaitArc). length l) empty))
        long_of (a ∷ chain) (inr (heights, are, best)) =
            ap (new_among f) (lanes_down heights best.down.first a chain best.down.down)
            ∙ new_down heights best.down.first (a ∷ chain) best.down.down ∙ best.down.highest

    -- a new lane has a free group, so there is one
    free_if_new : 0 < many → 0 < free_groups f
    free_if_new some =
        let held = is.plan.held (fixed_lanes f) (omega arith) (omega (arith, some)) in
        let g : ℕ = held.0 in
        let groups = (assigned-start s sound f fixed).assignment in
        let there : g < length f.lane_of_group = slice_get_within f.lane_of_group g None held.1 in
        omega (
          arith,
          (Keeps-start s.partition.groups f fixed).new g held.1,
          groups.within g 0 (omega (arith, there, fixed.one_each, groups.one_each)),
        )

    has_free : ¬ LacksFree f plan
    has_free (one, none) = elim (cases_eq many 0) [
      | inl zero_new ↦
          let no_lane : chain_length many arcs ≡ 0 =
          ap (λ (b : Bool). cond b 0 (length arcs + 1)) (eq-eqb many 0 zero_new) in
          omega (arith, one, no_lane)
      | inr some ↦ omega (arith, none, free_if_new (omega (arith, some)))
    ]

    -- ---- not too many workqueues

    wired : IsWiring (wiring_of d ws)
    wired = IsWiring-workqueues d ws declaration is.least.assignment

    -- what waits in a circle in the start does so on the workqueues of the plan
    no_circle : Circle (RescuedWaits w) → ⊥
    no_circle circle =
        not_safe-deadlocks (wiring_of d ws)
        (Deadlocks-rescued_circle (wiring_of d ws) wired
        (Circle-map (RescuedWaits w) (RescuedWaits (wiring_of d ws))
        (lane_now d f ws declaration fixed is.least.assignment is.least.keeps)
        (waits_here d f ws declaration fixed is.least.assignment is.least.keeps) circle))
        is.least.safe

    -- a chain of the start has no more new lanes than the start
    few_along : (arc : ℕ × ℕ) (others : List (ℕ × ℕ)) → All (IsArcOf (length s.table.names)) (arc ∷ others)
        → AllJoinAround d f (before_in_chain (arc ∷ others)) (arc ∷ others)
        → fixed_lanes f + new_among f (lanes_along d f (arc ∷ others)) ≤ 4096
    few_along arc others known joins =
        let began = assigned-start s sound f fixed in
        let each : All (λ (x : ℕ × ℕ). (x.0 < length d.waits) × (x.1 < length d.waits)) (arc ∷ others) =
        subst (λ (n : ℕ). All (IsArcOf n) (arc ∷ others)) (sym sound.table.one_list_each) known in
        elim (cases_lt (start f).assignment.lanes (fixed_lanes f + new_among f (lanes_along d f (arc ∷ others)))) [
          | inl more ↦ absurd (
              no_circle (Circle-fewer d f (start f) declaration fixed began.assignment
              (Keeps-start s.partition.groups f fixed) (lanes_along d f (arc ∷ others))
              (IsChain-joined w starts None arc others joins) (lanes-within w starts arc others each) more)
              )
          | inr few ↦ omega (arith, few, began.few)
        ]

    pub few_lanes : ws.assignment.lanes ≤ 4096
    few_lanes = few_with arcs refl
      where
        few_with : (l : List (ℕ × ℕ)) → arcs ≡ l → ws.assignment.lanes ≤ 4096
        few_with [] none =
            let count : chain_length many arcs ≡ many =
            sym (ap (λ (l : List (ℕ × ℕ)). new_along d f (chain_length many arcs) l) none) ∙ long in
            let alone : chain_length many [] ≡ many =
            ap (λ (l : List (ℕ × ℕ)). chain_length many l) (sym none) ∙ count in
            elim (cases_eq many 0) [
              | inl zero_new ↦ omega (arith, zero_new, is.least.keeps.lanes, fixed.few)
              | inr some ↦
                  let one : many ≡ 1 =
                  sym alone ∙ ap (λ (b : Bool). cond b 0 1) (ne_eqb many 0 some) in
                  omega (arith, one, is.least.keeps.lanes, fixed.few, free_if_new (omega (arith, one)))
            ]
        few_with (arc ∷ others) some =
            let known : All (IsArcOf (length s.table.names)) (arc ∷ others) =
            subst (All (IsArcOf (length s.table.names))) some known_arcs in
            let joins : AllJoinAround d f (before_in_chain (arc ∷ others)) (arc ∷ others) =
            subst (λ (l : List (ℕ × ℕ)). AllJoinAround d f (before_in_chain l) l) some joined in
            let count : new_among f (lanes_along d f (arc ∷ others)) ≡ many =
            sym (ap (λ (l : List (ℕ × ℕ)). new_along d f (chain_length many arcs) l) some) ∙ long in
            omega (arith, few_along arc others known joins, count, is.least.keeps.lanes)

    -- ---- the order

    pub below : All (λ q. q < ws.assignment.lanes) order
    below k e within =
        let lane = (is.order.all (get_or order k e)).0 (Contains-get_or order k e within) in lane.0

    pub short_order : length order ≤ 4096
    short_order =
        omega (
          arith,
          few_lanes,
          few_different ws.assignment.lanes order below (λ i j e less within same.
              apart (get_or order i e) (get_or order j e) same (is.order.in_order i j e less within)),
        )
      where
        apart : (p q : ℕ) → p ≡ q → ComesBefore is.order.ranks p q → ⊥
        apart p q same (inl lower) = omega (arith, lower, ap (slice_index is.order.ranks) same)
        apart p q same (inr (level, less)) = omega (arith, same, less)

    -- a lane of lower rank comes first
    comes_first : (p q : ℕ) → Contains order p → Contains order q
        → slice_index is.order.ranks q < slice_index is.order.ranks p → place_in order q < place_in order p
    comes_first p q p_there q_there lower =
        let of_p = place_of order p p_there in
        let of_q = place_of order q q_there in
        elim (cases_lt (place_in order q) (place_in order p)) [
          | inl first ↦ first
          | inr late ↦ elim (cases_lt (place_in order p) (place_in order q)) [
            | inl before ↦
                let comes : ComesBefore is.order.ranks p q =
                subst (λ (x : ℕ). ComesBefore is.order.ranks x q) of_p.at
                (subst (λ (y : ℕ). ComesBefore is.order.ranks (get_or order (place_in order p) 0) y) of_q.at
                (is.order.in_order (place_in order p) (place_in order q) 0 before of_q.within)) in
                absurd (not_before comes)
            | inr early ↦
                let same_place : place_in order p ≡ place_in order q = omega (arith, late, early) in
                let same : p ≡ q = sym of_p.at ∙ ap (λ (k : ℕ). get_or order k 0) same_place ∙ of_q.at in
                absurd (omega (arith, lower, ap (slice_index is.order.ranks) same))
          ]
        ]
      where
        not_before : ComesBefore is.order.ranks p q → ⊥
        not_before (inl higher) = omega (arith, lower, higher)
        not_before (inr (level, less)) = omega (arith, lower, level)

    -- ---- each flush falls

    module _ (i j : ℕ) (waits : ItemWaits d.waits i j) where
      abbrev p : ℕ
      p = lane_of (wiring_of d ws) i

      abbrev q : ℕ
      q = lane_of (wiring_of d ws) j

      p_below : p < ws.assignment.lanes
      p_below = lane_of-within (wiring_of d ws) wired i (ItemWaits-item d.waits i j waits)

      q_below : q < ws.assignment.lanes
      q_below =
          lane_of-within (wiring_of d ws) wired j
          (ItemWaits-below (length d.waits) d.waits wired.targets_are_items i j waits)

      -- otherwise the workqueues would deadlock
      rescued_target : HasRescuer (wiring_of d ws) p → HasRescuer (wiring_of d ws) q
      rescued_target rescuer = elim (cases_Bool (get_or ws.bare q false)) [
        | inl bare ↦ absurd (
            not_safe-deadlocks (wiring_of d ws)
            (Deadlocks-bare (wiring_of d ws) i j wired waits rescuer (λ has. false≢true (sym has ∙ bare)))
            is.least.safe
            )
        | inr rescued ↦ rescued
      ]

      falls_to : HasRescuer (wiring_of d ws) p → HasRescuer (wiring_of d ws) q
          → place_in order q < place_in order p
      falls_to from to =
          let lanes : List (List WaitArc) = lane_graph d ws.assignment in
          let arc : HasArc (rescued_graph d ws) p q =
          (HasArc-without ws.bare lanes p q).1
          (from, to, HasArc-items d ws.assignment declaration is.least.assignment i j waits) in
          let is_graph : IsGraph (rescued_graph d ws) =
          IsGraph-without ws.bare lanes
          (IsGraph-lane_graph d ws.assignment declaration is.least.assignment few_lanes) in
          let all : length (rescued_graph d ws) ≡ ws.assignment.lanes =
          length-without ws.bare lanes
          ∙ length-map-range_with_len (arcs_from d.waits (item_lanes ws.assignment d.group_of)) 0
          ws.assignment.lanes in
          comes_first p q ((is.order.all p).1 (p_below, from)) ((is.order.all q).1 (q_below, to))
          (AreRanks-fall (rescued_graph d ws) is.order.ranks is_graph is.order.are_ranks p q
          (omega (arith, p_below, all)) arc)

      falls_around : HasRescuer (wiring_of d ws) p → (get_or f.bare q false ≡ false)
          × (place_in order q < place_in order p)
      falls_around from =
          let to = rescued_target from in (sym (is.least.keeps.bare q q_below) ∙ to, falls_to from to)

    falls : AllFallAround d f plan
    falls i j waits rescuer =
        falls_around i j waits (is.least.keeps.bare (p i j waits) (p_below i j waits) ∙ rescuer)

    pub IsGoodPlanAround-planned : IsGoodPlanAround d f plan
    IsGoodPlanAround-planned = record { falls = falls; long = long; has_free = has_free; joined = joined }
