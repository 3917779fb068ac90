-- A search for ways while it goes on, when it is over, and the ways that it found.
use Rattle.std.proofs.Common.{◌≡◌, ◌≢◌, ℕ, zero, suc, ◌+◌, ◌*◌, ◌<◌, ◌≤◌, ◌⊎◌, inl, inr, Bool, true, false, eqb, List}
use Rattle.std.proofs.Common.{[]}
use Rattle.std.proofs.Common.{◌∷◌, ◌++◌, length, get_or, reverse, take, refl, sym, ap, subst, ◌∙◌, arith}
use Rattle.std.specs.Prelude.{Contains, slice_index, slice_index_or, if◌then◌else◌, ◌||◌, replicate}
use Rattle.std.specs.List.{All}
use Rattle.std.proofs.lemmas.Bool.{cases_eq, cases_lt, eqb-true}
use Rattle.std.proofs.lemmas.List.{get_or-replicate, get_or_past, length-replicate, reverse-append}
use Rattle.std.proofs.lemmas.List.Elements.{All-contains, All-contains_itself, All-weaker}
use Rattle.wq_items.specs.declared.target.Target.{Target}
use Rattle.wq_core.specs.Wiring.{Wiring, IsWiring, HasRescuer, items, lane_of, declared_by}
use Rattle.wq_core.proofs.Wirings.{lane_of-within}
use Rattle.wq_hang.specs.declared.hop.Hop.{Hop}
use Rattle.wq_hang.specs.Walk.{IsHop, IsPath, unsure_part}
use Rattle.wq_hang.specs.Search.{hop_cost, hops_cost, Reach, IsTodo, IsTaken, step, lane_step, AreItemsOn}
use Rattle.wq_hang.specs.WaysFor.{begin_at, start_lane, expand_below, BeginsAt, IsWayFrom, IsReachedFrom, IsReachFrom}
use Rattle.wq_hang.specs.WaysFor.{AreFollowed, AreWaysSoFar, AreWays, IsWay}
use Rattle.wq_hang.proofs.Declared.{declared-item}
use Rattle.wq_hang.proofs.Reaching.{queues, work, Later}
use Rattle.wq_hang.proofs.Searching.{IsNew, replicate-most, none_todo, taken_todo, taken_before, taken_was, work-taken}
use Rattle.wq_hang.proofs.LeastWalks.{IsPath-append, hops_cost-append}
use Rattle.wq_hang.proofs.CutWalks.{path_rescuer}
use Rattle.wq_hang.proofs.WaysGrown.{GrownFrom, GrownFrom-begin_at, GrownFrom-start_lane, GrownFrom-expand}

module _ (w : Wiring) (starts : List ℕ) (limit : ℕ) where
  -- ---- the beginning

  pub IsReachFrom-new : (s : Reach) → IsWiring w → IsNew w limit s → IsReachFrom w starts limit s
  IsReachFrom-new s wiring new = record {
    one_each = ap (λ (l : List ℕ). length l) new.costs ∙ length-replicate (items w) limit;
    by_each = new.by_each;
    lanes_each = ap (λ (l : List ℕ). length l) new.lane_costs ∙ length-replicate w.lanes limit;
    capped = capped;
    lanes_capped = λ q.
        omega (arith, replicate-most w.lanes limit q, ap (λ (l : List ℕ). get_or l q 0) new.lane_costs);
    by_lane = λ i below. omega (arith, capped i, lane_at_limit i below);
    rescuer = λ i below less. absurd (omega (arith, less, at_limit i below));
    todo = λ i todo. absurd (none_todo w limit s i new todo);
    reached = λ i d below less. absurd (omega (arith, less, at_limit i below));
  }
    where
      capped : (i : ℕ) → slice_index s.costs i ≤ limit
      capped i = omega (arith, replicate-most (items w) limit i, ap (λ (l : List ℕ). get_or l i 0) new.costs)

      at_limit : (i : ℕ) → i < items w → slice_index s.costs i ≡ limit
      at_limit i below = ap (λ (l : List ℕ). get_or l i 0) new.costs ∙ get_or-replicate (items w) i limit 0 below

      lane_at_limit : (i : ℕ) → i < items w → slice_index s.lane_costs (lane_of w i) ≡ limit
      lane_at_limit i below =
          ap (λ (l : List ℕ). get_or l (lane_of w i) 0) new.lane_costs
          ∙ get_or-replicate w.lanes (lane_of w i) limit 0 (lane_of-within w wiring i below)

  -- while ways begin: those of the starts so far cost nothing; and each item is to be gone on from, or costs as much
  -- as the limit
  pub record AreBegun (begun : List ℕ) (s : Reach) : Type 0 where
    pub reach : IsReachFrom w starts limit s
    pub nothing : (i : ℕ) → Contains begun i → slice_index s.costs i ≡ 0
    pub others : (i : ℕ) → i < items w → IsTodo s i ⊎ (slice_index s.costs i ≡ limit)

  pub AreBegun-new : (s : Reach) → IsWiring w → IsNew w limit s → AreBegun [] s
  AreBegun-new s wiring new = record {
    reach = IsReachFrom-new s wiring new;
    nothing = λ i there. absurd (omega (arith, there.1));
    others = λ i below. inr (ap (λ (l : List ℕ). get_or l i 0) new.costs
        ∙ get_or-replicate (items w) i limit 0 below);
  }

  later-others : (s r : Reach) → Later s r → ((i : ℕ) → i < items w → IsTodo s i ⊎ (slice_index s.costs i ≡ limit))
      → (i : ℕ) → i < items w → IsTodo r i ⊎ (slice_index r.costs i ≡ limit)
  later-others s r later before i below = elim (later.noted i) [
    | inr todo ↦ inl todo
    | inl same ↦ elim (before i below) [
      | inl todo ↦ inl (later.kept i todo)
      | inr at_limit ↦ inr (same ∙ at_limit)
    ]
  ]

  -- one start more
  pub AreBegun-start : (begun more : List ℕ) (s : Reach) (i : ℕ) → AreBegun begun s → Contains starts i → i < items w
      → HasRescuer w (lane_of w i) → ((j : ℕ) → Contains more j → Contains begun j ⊎ (i ≡ j))
      → AreBegun more (begin_at true 0 s i)
  AreBegun-start begun more s i are there below rescuer either =
      let grown = GrownFrom-begin_at w starts limit true 0 s i are.reach below rescuer (inl (there, refl)) in
      let r : Reach = begin_at true 0 s i in
      record {
        reach = grown.0.reach;
        nothing = λ j in_more. elim (either j in_more) [
          | inl before ↦ omega (arith, are.nothing j before, grown.0.later.less j)
          | inr same ↦ omega (arith, grown.1, ap (λ (k : ℕ). slice_index r.costs k) same)
        ];
        others = later-others s r grown.0.later are.others;
      }

  -- and while they begin on the lanes of the starts: these are behind those so far
  pub record AreBehind (done : List ℕ) (s : Reach) : Type 0 where
    pub begun : AreBegun starts s
    pub lanes : (i : ℕ) → Contains done i → slice_index s.lane_costs (lane_of w i) ≤ 1

  pub AreBehind-none : (s : Reach) → AreBegun starts s → AreBehind [] s
  AreBehind-none s are = record { begun = are; lanes = λ i there. absurd (omega (arith, there.1)) }

  pub AreBehind-lane : (wiring : IsWiring w) (on : List (List ℕ)) (items_on : AreItemsOn w on) (done more : List ℕ)
      (s : Reach) (i : ℕ) → AreBehind done s → Contains starts i → i < items w → HasRescuer w (lane_of w i)
      → ((j : ℕ) → Contains more j → Contains done j ⊎ (i ≡ j))
      → AreBehind more (start_lane (lane_of w i) (slice_index_or on (lane_of w i) []) s)
  AreBehind-lane wiring on items_on done more s i are there below rescuer either =
      let grown = GrownFrom-start_lane w starts limit wiring on items_on i s are.begun.reach there below rescuer in
      let r : Reach = start_lane (lane_of w i) (slice_index_or on (lane_of w i) []) s in
      record {
        begun = record {
          reach = grown.0.reach;
          nothing = λ j in_starts. omega (arith, are.begun.nothing j in_starts, grown.0.later.less j);
          others = later-others s r grown.0.later are.begun.others;
        };
        lanes = λ j in_more. elim (either j in_more) [
          | inl before ↦ omega (arith, are.lanes j before, grown.0.later.lanes_less (lane_of w j))
          | inr same ↦ subst (λ (k : ℕ). slice_index r.lane_costs (lane_of w k) ≤ 1) same grown.1
        ];
      }

  -- what costs as much as the limit is followed at no more
  pub AreWaysSoFar-behind : (s : Reach) → AreBehind starts s → AreWaysSoFar w starts limit s
  AreWaysSoFar-behind s are = record {
    reach = are.begun.reach;
    begun = All-weaker (Contains starts)
        (λ i. (slice_index s.costs i ≡ 0) × (slice_index s.lane_costs (lane_of w i) ≤ 1))
        (λ i there. (are.begun.nothing i there, are.lanes i there)) starts (All-contains_itself starts);
    followed = λ i below. elim (are.begun.others i below) [
      | inl todo ↦ inl todo
      | inr at_limit ↦ inr (λ t there rescuer. (
        omega (arith, at_limit, are.begun.reach.capped t.item),
        omega (arith, at_limit, are.begun.reach.lanes_capped (lane_of w t.item)),
      ))
    ];
  }

  -- ---- one item more

  IsReachFrom-taken : (wiring : IsWiring w) (on : List (List ℕ)) (items_on : AreItemsOn w on) (s r : Reach) (i : ℕ)
      → IsTaken s i r → IsReachFrom w starts limit s → IsReachFrom w starts limit r
  IsReachFrom-taken wiring on items_on s r i taken is = record {
    one_each = ap (λ (l : List ℕ). length l) taken.costs ∙ is.one_each;
    by_each = ap (λ (l : List Hop). length l) taken.by ∙ is.by_each;
    lanes_each = ap (λ (l : List ℕ). length l) taken.lane_costs ∙ is.lanes_each;
    capped = λ j. omega (arith, same j, is.capped j);
    lanes_capped = λ q. omega (arith, same_lane q, is.lanes_capped q);
    by_lane = λ j below. omega (arith, same j, same_lane (lane_of w j), is.by_lane j below);
    rescuer = λ j below less. is.rescuer j below (omega (arith, less, same j));
    todo = λ j todo.
        let was = is.todo j (taken_before w [] 0 limit wiring on items_on s r i taken j todo) in
        (was.0, omega (arith, was.1, same j));
    reached = λ j d below less. reached_by j d (is.reached j d below (omega (arith, less, same j)));
  }
    where
      same : (j : ℕ) → slice_index r.costs j ≡ slice_index s.costs j
      same j = ap (λ (l : List ℕ). slice_index l j) taken.costs

      same_lane : (q : ℕ) → slice_index r.lane_costs q ≡ slice_index s.lane_costs q
      same_lane q = ap (λ (l : List ℕ). slice_index l q) taken.lane_costs

      reached_by : (j : ℕ) (d : Hop)
          → BeginsAt w starts j (slice_index s.costs j) ⊎ IsReachedFrom w s j (slice_index_or s.by j d)
          → BeginsAt w starts j (slice_index r.costs j) ⊎ IsReachedFrom w r j (slice_index_or r.by j d)
      reached_by j d (inl begins) = inl (subst (λ (c : ℕ). BeginsAt w starts j c) (sym (same j)) begins)
      reached_by j d (inr by_it) =
          inr (subst (λ (l : List Hop). IsReachedFrom w r j (slice_index_or l j d)) (sym taken.by) (record {
            next = by_it.next;
            hop = by_it.hop;
            on = by_it.on;
            from = omega (arith, by_it.from, same j, same (slice_index_or s.by j d).item);
            behind = omega (arith, by_it.behind, same j);
          }))

  module _ (wiring : IsWiring w) (on : List (List ℕ)) (items_on : AreItemsOn w on) where
    pub todo_below : (s r : Reach) (i : ℕ) → AreWaysSoFar w starts limit s → IsTaken s i r
        → (i < items w) × (slice_index s.costs i < limit)
    todo_below s r i so_far taken =
        so_far.reach.todo i (taken_was w [] 0 limit wiring on items_on s r i taken)

    pub AreWaysSoFar-next : (s r end : Reach) (i : ℕ) → AreWaysSoFar w starts limit s → IsTaken s i r
        → end ≡ expand_below w on limit i r → AreWaysSoFar w starts limit end × (work end < work s)
    AreWaysSoFar-next s r end i so_far taken is =
        let todo = todo_below s r i so_far taken in
        let reach : IsReachFrom w starts limit r = IsReachFrom-taken wiring on items_on s r i taken so_far.reach in
        let rescuer : HasRescuer w (lane_of w i) = so_far.reach.rescuer i todo.0 todo.1 in
        let grown = GrownFrom-expand w starts limit wiring on items_on i r reach rescuer in (
          subst (AreWaysSoFar w starts limit) (sym is) (record {
            reach = grown.0.reach;
            begun = All-weaker (λ j. (slice_index s.costs j ≡ 0) × (slice_index s.lane_costs (lane_of w j) ≤ 1))
                (λ j. (slice_index next.costs j ≡ 0) × (slice_index next.lane_costs (lane_of w j) ≤ 1))
                (λ j was. (
                  omega (arith, was.0, same j, grown.0.later.less j),
                  omega (arith, was.1, same_lane (lane_of w j), grown.0.later.lanes_less (lane_of w j)),
                ))
                starts so_far.begun;
            followed = λ j below. followed grown.0.later grown.1 j (cases_eq j i) (so_far.followed j below)
                (grown.0.later.noted j);
          }),
          omega (
            arith,
            grown.0.later.work,
            work-taken w [] 0 limit wiring on items_on s r i taken,
            ap work is,
          ),
        )
      where
        next : Reach
        next = expand_below w on limit i r

        same : (j : ℕ) → slice_index r.costs j ≡ slice_index s.costs j
        same j = ap (λ (l : List ℕ). slice_index l j) taken.costs

        same_lane : (q : ℕ) → slice_index r.lane_costs q ≡ slice_index s.lane_costs q
        same_lane q = ap (λ (l : List ℕ). slice_index l q) taken.lane_costs

        followed : Later r next
            → ((t : Target) → Contains (declared_by w i) t → HasRescuer w (lane_of w t.item)
            → (slice_index next.costs t.item ≤ slice_index r.costs i + step t)
            × (slice_index next.lane_costs (lane_of w t.item) ≤ slice_index r.costs i + lane_step t))
            → (j : ℕ) → (j ≡ i) ⊎ (j ≢ i) → IsTodo s j ⊎ AreFollowed w s j
            → (slice_index next.costs j ≡ slice_index r.costs j) ⊎ IsTodo next j
            → IsTodo next j ⊎ AreFollowed w next j
        followed later led j which before (inr todo) = inl todo
        followed later led j (inl it) before (inl stays) =
            inr (subst (λ (k : ℕ). AreFollowed w next k) (sym it) (λ t there rescuer.
            let now : slice_index next.costs i ≡ slice_index r.costs i =
            subst (λ (k : ℕ). slice_index next.costs k ≡ slice_index r.costs k) it stays in
            let here = led t there rescuer in
            (omega (arith, here.0, now), omega (arith, here.1, now))))
        followed later led j (inr other) (inl todo) (inl stays) =
            elim (taken_todo w [] 0 limit wiring on items_on s r i taken j todo) [
              | inl it ↦ absurd (other it)
              | inr still ↦ inl (later.kept j still)
            ]
        followed later led j (inr other) (inr done) (inl stays) = inr (λ t there rescuer.
            let was = done t there rescuer in (
              omega (arith, was.0, stays, same j, same t.item, later.less t.item),
              omega (
                arith,
                was.1,
                stays,
                same j,
                same_lane (lane_of w t.item),
                later.lanes_less (lane_of w t.item),
              ),
            ))

  -- ---- the end

  module _ (s : Reach) (so_far : AreWaysSoFar w starts limit s) (none : queues s ≡ 0) where
    none_left : (i : ℕ) → ¬ IsTodo s i
    none_left i (inl there) = omega (arith, there.1, none)
    none_left i (inr (inl there)) = omega (arith, there.1, none)
    none_left i (inr (inr (inl there))) = omega (arith, there.1, none)
    none_left i (inr (inr (inr there))) = omega (arith, there.1, none)

    all_done : (i : ℕ) → i < items w → AreFollowed w s i
    all_done i below = elim (so_far.followed i below) [
      | inl todo ↦ absurd (none_left i todo)
      | inr done ↦ done
    ]

    -- no item costs more than its lane
    lane_enough : (i : ℕ) → slice_index s.costs i ≤ slice_index s.lane_costs (lane_of w i)
    lane_enough i = elim (cases_lt i (items w)) [
      | inl below ↦ so_far.reach.by_lane i below
      | inr past ↦ omega (arith, get_or_past s.costs i 0 (omega (arith, past, so_far.reach.one_each)))
    ]

    hop_enough : (h : Hop) → IsHop w h → lane_of w h.next ≡ lane_of w h.flush.item → HasRescuer w (lane_of w h.next)
        → slice_index s.costs h.next ≤ slice_index s.costs h.item + hop_cost h
    hop_enough h hop on rescuer =
        let below : h.item < items w = declared-item w h.item h.flush hop.declared in
        let is = all_done h.item below h.flush hop.declared (subst (HasRescuer w) on rescuer) in
        let lane : slice_index s.costs h.next ≤ slice_index s.costs h.item + lane_step h.flush =
        omega (arith, lane_enough h.next, is.1, ap (slice_index s.lane_costs) on) in
        by h.flush.whole (eqb h.flush.item h.next) refl lane is.0
      where
        by : (whole same : Bool) → eqb h.flush.item h.next ≡ same
            → slice_index s.costs h.next ≤ slice_index s.costs h.item + (unsure_part h.flush + (if whole then 3 else 4))
            → slice_index s.costs h.flush.item ≤ slice_index s.costs h.item + (unsure_part h.flush + 3)
            → slice_index s.costs h.next
            ≤ slice_index s.costs h.item
            + (unsure_part h.flush + (3 + length (if whole || same then [] else h.flush.item ∷ [])))
        by true same test lane direct = omega arith
        by false true test lane direct =
            omega (arith, direct, ap (slice_index s.costs) (eqb-true h.flush.item h.next test))
        by false false test lane direct = omega arith

    path_enough : (i j : ℕ) (hops : List Hop) → IsPath w i hops j → HasRescuer w (lane_of w j)
        → slice_index s.costs j ≤ slice_index s.costs i + hops_cost hops
    path_enough i j [] path rescuer = omega (arith, ap (slice_index s.costs) path)
    path_enough i j (h ∷ hops) path rescuer =
        let one : slice_index s.costs h.next ≤ slice_index s.costs h.item + hop_cost h =
        hop_enough h path.1 path.2 (path_rescuer w h.next j hops path.3 rescuer) in
        let rest : slice_index s.costs j ≤ slice_index s.costs h.next + hops_cost hops =
        path_enough h.next j hops path.3 rescuer in
        omega (arith, one, rest, ap (slice_index s.costs) path.0)

    begins_enough : (i before : ℕ) → BeginsAt w starts i before → slice_index s.costs i ≤ before
    begins_enough i before (inl at) =
        let begun = All-contains (λ j. (slice_index s.costs j ≡ 0) × (slice_index s.lane_costs (lane_of w j) ≤ 1))
        starts i so_far.begun at.0 in
        omega (arith, begun.0, at.1)
    begins_enough i before (inr at) =
        let begun = All-contains (λ j. (slice_index s.costs j ≡ 0) × (slice_index s.lane_costs (lane_of w j) ≤ 1))
        starts at.0 so_far.begun at.1 in
        omega (arith, lane_enough i, begun.1, ap (slice_index s.lane_costs) at.2, at.4)

    pub AreWays-all : AreWays w starts limit s
    AreWays-all = record {
      reach = so_far.reach;
      least = λ i cost hops rescuer way.
          omega (
            arith,
            begins_enough way.first way.before way.begins,
            path_enough way.first i hops way.path rescuer,
            way.costs,
          );
    }

-- ---- a way that was found

-- the hops, the last one first, lead from an item to this one, and cost no more than is left
pub record IsTraceTo (w : Wiring) (s : Reach) (item at : ℕ) (hops : List Hop) : Type 0 where
  pub below : at < items w
  pub path : IsPath w at (reverse hops) item
  pub cost : slice_index s.costs at + hops_cost (reverse hops) ≤ slice_index s.costs item

pub IsTraceTo-none : (w : Wiring) (s : Reach) (item : ℕ) → item < items w → IsTraceTo w s item item []
IsTraceTo-none w s item below = record { below = below; path = refl; cost = omega arith }

module _ (w : Wiring) (starts : List ℕ) (limit : ℕ) (s : Reach) (reach : IsReachFrom w starts limit s) (item : ℕ)
    (low : slice_index s.costs item < limit) where
  -- what costs more than 1 is reached by a hop
  by_hop : (at : ℕ) (hops : List Hop) (d : Hop) → IsTraceTo w s item at hops → 1 < slice_index s.costs at
      → IsReachedFrom w s at (slice_index_or s.by at d)
  by_hop at hops d trace more = by (reach.reached at d trace.below (omega (arith, low, trace.cost)))
    where
      by : BeginsAt w starts at (slice_index s.costs at) ⊎ IsReachedFrom w s at (slice_index_or s.by at d)
          → IsReachedFrom w s at (slice_index_or s.by at d)
      by (inr is) = is
      by (inl (inl begins)) = absurd (omega (arith, more, begins.1))
      by (inl (inr begins)) = absurd (omega (arith, more, begins.4))

  -- one hop more, from an item that costs less
  pub IsTraceTo-next : (at : ℕ) (hops : List Hop) (h : Hop) → ((d : Hop) → h ≡ slice_index_or s.by at d)
      → IsTraceTo w s item at hops → 1 < slice_index s.costs at
      → IsTraceTo w s item h.item (hops ++ (h ∷ [])) × (slice_index s.costs h.item < slice_index s.costs at)
  IsTraceTo-next at hops h same trace more =
      let is : IsReachedFrom w s at h = subst (IsReachedFrom w s at) (sym (same h)) (by_hop at hops h trace more) in
      let turned : reverse (hops ++ (h ∷ [])) ≡ h ∷ reverse hops = reverse-append hops (h ∷ []) in
      let on : IsPath w h.next (reverse hops) item =
      subst (λ (i : ℕ). IsPath w i (reverse hops) item) (sym is.next) trace.path in (
        record {
          below = declared-item w h.item h.flush is.hop.declared;
          path = subst (λ (l : List Hop). IsPath w h.item l item) (sym turned) (refl, is.hop, is.on, on);
          cost = omega (arith, ap hops_cost turned, is.from, trace.cost);
        },
        omega (arith, is.from),
      )

  -- where it costs no more than 1 the way begins
  pub IsWay-traced : (at : ℕ) (hops : List Hop) → IsTraceTo w s item at hops → slice_index s.costs at ≤ 1 → (d : Hop)
      → IsWay w starts s item (reverse hops)
  IsWay-traced at hops trace few d = by (reach.reached at d trace.below (omega (arith, low, trace.cost)))
    where
      by : BeginsAt w starts at (slice_index s.costs at) ⊎ IsReachedFrom w s at (slice_index_or s.by at d)
          → IsWay w starts s item (reverse hops)
      by (inl begins) = record {
        cost = slice_index s.costs at + hops_cost (reverse hops);
        way = record {
          first = at;
          before = slice_index s.costs at;
          begins = begins;
          path = trace.path;
          costs = refl;
        };
        least = trace.cost;
      }
      by (inr is) = absurd (omega (arith, few, is.behind))

-- ---- to each item that costs less than the limit there is a way

module _ (w : Wiring) (starts : List ℕ) (limit : ℕ) (s : Reach) (reach : IsReachFrom w starts limit s) (d : Hop) where
  way_begins : (i : ℕ) → BeginsAt w starts i (slice_index s.costs i) → (hops : List Hop) × IsWay w starts s i hops
  way_begins i begins = (
    [],
    record {
      cost = slice_index s.costs i;
      way = record {
        first = i;
        before = slice_index s.costs i;
        begins = begins;
        path = refl;
        costs = omega arith;
      };
      least = omega arith;
    },
  )

  one_more : (i : ℕ) (h : Hop) → IsReachedFrom w s i h → (hops : List Hop) × IsWay w starts s h.item hops
      → (hops : List Hop) × IsWay w starts s i hops
  one_more i h is (hops, way) = (
    hops ++ (h ∷ []),
    record {
      cost = way.cost + hop_cost h;
      way = record {
        first = way.way.first;
        before = way.way.before;
        begins = way.way.begins;
        path = IsPath-append w way.way.first h.item i hops (h ∷ []) way.way.path (refl, is.hop, is.on, is.next);
        costs = omega (arith, hops_cost-append hops (h ∷ []), way.way.costs);
      };
      least = omega (arith, way.least, is.from);
    },
  )

  way_within : (most i : ℕ) → slice_index s.costs i ≤ most → i < items w → slice_index s.costs i < limit
      → (hops : List Hop) × IsWay w starts s i hops
  way_within zero i few below low = elim (reach.reached i d below low) [
    | inl begins ↦ way_begins i begins
    | inr is ↦ absurd (omega (arith, few, is.behind))
  ]
  way_within (suc n) i few below low = elim (reach.reached i d below low) [
    | inl begins ↦ way_begins i begins
    | inr is ↦ (
        let h : Hop = slice_index_or s.by i d in
        one_more i h is (way_within n h.item (omega (arith, few, is.from))
        (declared-item w h.item h.flush is.hop.declared) (omega (arith, low, is.from)))
        )
  ]

  pub way_exists : (i : ℕ) → i < items w → slice_index s.costs i < limit → (hops : List Hop) × IsWay w starts s i hops
  way_exists i below low = way_within (slice_index s.costs i) i (omega arith) below low
