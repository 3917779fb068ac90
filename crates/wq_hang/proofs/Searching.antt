-- A search while it goes on, and when it is over.
use Rattle.std.proofs.Common.{
  ◌≡◌,
  ◌≢◌,
  ℕ,
  zero,
  suc,
  ◌+◌,
  ◌-◌,
  min,
  ◌<◌,
  ◌≤◌,
  ◌⊎◌,
  inl,
  inr,
  Bool,
  true,
  false,
  eqb,
  List,
  [],
  ◌∷◌,
  length,
  get_or,
  refl,
  sym,
  ap,
  subst,
  ◌∙◌,
  arith,
}
use Rattle.std.specs.Prelude.{Contains, slice_index, slice_index_or, if◌then◌else◌, ◌||◌, replicate}
use Rattle.std.proofs.lemmas.Bool.{cases_eq, cases_lt, eqb-true, eq-eqb}
use Rattle.std.proofs.lemmas.List.{get_or-replicate, get_or_past, length-replicate}
use Rattle.wq_items.proofs.Lists.{Contains-here, Contains-later}
use Rattle.wq_core.specs.Wiring.{Wiring, IsWiring, HasRescuer, items, lane_of, declared_by}
use Rattle.wq_core.proofs.Wirings.{lane_of-within}
use Rattle.wq_hang.specs.declared.hop.Hop.{Hop}
use Rattle.wq_hang.specs.Walk.{IsHop, IsPath, unsure_part}
use Rattle.wq_hang.specs.Search.{hop_cost, hops_cost, Reach, IsTodo, lane_step, expand, AreItemsOn, IsReachedBy}
use Rattle.wq_hang.specs.Search.{most_of_use, IsReach, IsFollowed, AreBounds, IsGoing, IsTaken, IsSearched}
use Rattle.wq_hang.proofs.Declared.{declared-item, path_declares}
use Rattle.wq_hang.proofs.Reaching.{queues, work, Later, Grown, most-later, Grown-expand}

-- ---- the beginning

-- before anything is reached
pub record IsNew (w : Wiring) (limit : ℕ) (s : Reach) : Type 0 where
  pub costs : s.costs ≡ replicate (items w) limit
  pub lane_costs : s.lane_costs ≡ replicate w.lanes limit
  pub by_each : length s.by ≡ items w
  pub near : s.near ≡ []
  pub far : s.far ≡ []
  pub near_unsure : s.near_unsure ≡ []
  pub far_unsure : s.far_unsure ≡ []

pub replicate-most : (n x i : ℕ) → get_or (replicate n x) i 0 ≤ x
replicate-most n x i = elim (cases_lt i n) [
  | inl within ↦ omega (arith, get_or-replicate n i x 0 within)
  | inr past ↦ omega (arith, get_or_past (replicate n x) i 0 (omega (arith, past, length-replicate n x)))
]

pub none_todo : (w : Wiring) (limit : ℕ) (s : Reach) (i : ℕ) → IsNew w limit s → ¬ IsTodo s i
none_todo w limit s i new (inl there) = omega (arith, there.1, ap (λ (l : List ℕ). length l) new.near)
none_todo w limit s i new (inr (inl there)) = omega (arith, there.1, ap (λ (l : List ℕ). length l) new.far)
none_todo w limit s i new (inr (inr (inl there))) = omega
    (arith, there.1, ap (λ (l : List ℕ). length l) new.near_unsure)
none_todo w limit s i new (inr (inr (inr there))) = omega (arith, there.1, ap (λ (l : List ℕ). length l) new.far_unsure)

IsReach-new : (w : Wiring) (first limit : ℕ) (s : Reach) → IsWiring w → IsNew w limit s → IsReach w first limit s
IsReach-new w first limit s wiring new = record {
  one_each = ap (λ (l : List ℕ). length l) new.costs ∙ length-replicate (items w) limit;
  by_each = new.by_each;
  lanes_each = ap (λ (l : List ℕ). length l) new.lane_costs ∙ length-replicate w.lanes limit;
  capped = λ i. capped i;
  lanes_capped = λ q. omega (arith, replicate-most w.lanes limit q, ap (λ (l : List ℕ). get_or l q 0) new.lane_costs);
  by_lane = λ i below. omega (arith, capped i, lane_at_limit i below);
  todo = λ i todo. absurd (none_todo w limit s i new todo);
  reached = λ i d below less. absurd (omega (arith, less, at_limit i below));
}
  where
    capped : (i : ℕ) → slice_index s.costs i ≤ limit
    capped i = omega (arith, replicate-most (items w) limit i, ap (λ (l : List ℕ). get_or l i 0) new.costs)

    at_limit : (i : ℕ) → i < items w → slice_index s.costs i ≡ limit
    at_limit i below = ap (λ (l : List ℕ). get_or l i 0) new.costs ∙ get_or-replicate (items w) i limit 0 below

    lane_at_limit : (i : ℕ) → i < items w → slice_index s.lane_costs (lane_of w i) ≡ limit
    lane_at_limit i below = ap (λ (l : List ℕ). get_or l (lane_of w i) 0) new.lane_costs ∙ get_or-replicate w.lanes
        (lane_of w i) limit 0 (lane_of-within w wiring i below)

IsFollowed-later : (w : Wiring) (bounds : List ℕ) (first limit : ℕ) (wiring : IsWiring w) (on : List (List ℕ))
    (are : AreItemsOn w on) (s r : Reach) (i cost : ℕ) → Later s r → IsFollowed w bounds first s i cost
    → IsFollowed w bounds first r i cost
IsFollowed-later w bounds first limit wiring on are s r i cost later is t there rescuer =
    let before = is t there rescuer in
    let less = most-later w first limit wiring on are bounds s r (lane_of w t.item) later in (
      omega (arith, before.0, less, later.less t.item),
      omega (arith, before.1, less, later.lanes_less (lane_of w t.item)),
    )

module _ (w : Wiring) (bounds : List ℕ) (first limit : ℕ) (wiring : IsWiring w) (on : List (List ℕ))
    (are : AreItemsOn w on) where
  pub IsGoing-first : (s r : Reach) → IsNew w limit s → HasRescuer w (lane_of w first)
      → r ≡ expand w on bounds first first 0 s →
      IsGoing w bounds first limit r
  IsGoing-first s r new rescuer is = subst (IsGoing w bounds first limit) (sym is)
      (record { reach = grown.0.reach; begun = grown.1; followed = followed })
    where
      reach : IsReach w first limit s
      reach = IsReach-new w first limit s wiring new

      grown : Grown w first limit s (expand w on bounds first first 0 s)
          × IsFollowed w bounds first (expand w on bounds first first 0 s) first 0
      grown = Grown-expand w first limit wiring on are bounds first 0 s reach rescuer (λ other. absurd (other refl))

      followed : (i : ℕ) → i < items w → IsTodo (expand w on bounds first first 0 s) i
          ⊎ IsFollowed w bounds first (expand w on bounds first first 0 s) i
          (slice_index (expand w on bounds first first 0 s).costs i)
      followed i below = elim (grown.0.later.noted i) [
        | inr todo ↦ inl todo
        | inl same ↦ inr (λ t there other.
            let at_limit : slice_index s.costs i ≡ limit = ap (λ (l : List ℕ). get_or l i 0) new.costs ∙
            get_or-replicate (items w) i limit 0 below in (
              omega (arith, same, at_limit, grown.0.reach.capped t.item),
              omega
                  (arith, same, at_limit, grown.0.reach.lanes_capped (lane_of w t.item)),
            )
            )
      ]

  -- ---- one item more

  -- which of the four queues the item was in
  abbrev Taken : Reach → ℕ → Reach → Type 0
  Taken s i r = (s ≡ record r { near = i ∷ r.near })
      ⊎ ((s ≡ record r { far = i ∷ r.far })
      ⊎ ((s ≡ record r { near_unsure = i ∷ r.near_unsure }) ⊎ (s ≡ record r { far_unsure = i ∷ r.far_unsure })))

  -- what holds whichever it was holds
  for_queues : (i : ℕ) (r : Reach) (P : Reach → Type 0) → P (record r { near = i ∷ r.near })
      → P (record r { far = i ∷ r.far })
      → P (record r { near_unsure = i ∷ r.near_unsure }) → P (record r { far_unsure = i ∷ r.far_unsure }) → (s : Reach)
      → Taken s i r → P s
  for_queues i r P one two three four s (inl is) = subst P (sym is) one
  for_queues i r P one two three four s (inr (inl is)) = subst P (sym is) two
  for_queues i r P one two three four s (inr (inr (inl is))) = subst P (sym is) three
  for_queues i r P one two three four s (inr (inr (inr is))) = subst P (sym is) four

  first_or_later : (j x : ℕ) (xs : List ℕ) → Contains (x ∷ xs) j → (j ≡ x) ⊎ Contains xs j
  first_or_later j x xs (zero, lt, at) = inl (sym at)
  first_or_later j x xs (suc k, lt, at) = inr (k, omega arith, at)

  one_more : (j x : ℕ) (xs : List ℕ) (P : Type 0) → (Contains xs j → P) → Contains (x ∷ xs) j → (j ≡ x) ⊎ P
  one_more j x xs P later there = elim (first_or_later j x xs there) [ inl same ↦ inl same | inr old ↦ inr (later old) ]

  pub taken_todo : (s r : Reach) (i : ℕ) → IsTaken s i r → (j : ℕ) → IsTodo s j → (j ≡ i) ⊎ IsTodo r j
  taken_todo s r i taken j = for_queues i r (λ (x : Reach). IsTodo x j → (j ≡ i)
      ⊎ IsTodo r j) one two three four s taken.queues
    where
      one : IsTodo (record r { near = i ∷ r.near }) j → (j ≡ i) ⊎ IsTodo r j
      one (inl there) = one_more j i r.near (IsTodo r j) (λ old. inl old) there
      one (inr rest) = inr (inr rest)

      two : IsTodo (record r { far = i ∷ r.far }) j → (j ≡ i) ⊎ IsTodo r j
      two (inl there) = inr (inl there)
      two (inr (inl there)) = one_more j i r.far (IsTodo r j) (λ old. inr (inl old)) there
      two (inr (inr rest)) = inr (inr (inr rest))

      three : IsTodo (record r { near_unsure = i ∷ r.near_unsure }) j → (j ≡ i) ⊎ IsTodo r j
      three (inl there) = inr (inl there)
      three (inr (inl there)) = inr (inr (inl there))
      three (inr (inr (inl there))) = one_more j i r.near_unsure (IsTodo r j) (λ old. inr (inr (inl old))) there
      three (inr (inr (inr there))) = inr (inr (inr (inr there)))

      four : IsTodo (record r { far_unsure = i ∷ r.far_unsure }) j → (j ≡ i) ⊎ IsTodo r j
      four (inl there) = inr (inl there)
      four (inr (inl there)) = inr (inr (inl there))
      four (inr (inr (inl there))) = inr (inr (inr (inl there)))
      four (inr (inr (inr there))) = one_more j i r.far_unsure (IsTodo r j) (λ old. inr (inr (inr old))) there

  pub taken_before : (s r : Reach) (i : ℕ) → IsTaken s i r → (j : ℕ) → IsTodo r j → IsTodo s j
  taken_before s r i taken j todo = for_queues i r (λ (x : Reach). IsTodo x j) (one todo) (two todo) (three todo)
      (four todo) s taken.queues
    where
      one : IsTodo r j → IsTodo (record r { near = i ∷ r.near }) j
      one (inl there) = inl (Contains-later i r.near j there)
      one (inr rest) = inr rest

      two : IsTodo r j → IsTodo (record r { far = i ∷ r.far }) j
      two (inl there) = inl there
      two (inr (inl there)) = inr (inl (Contains-later i r.far j there))
      two (inr (inr rest)) = inr (inr rest)

      three : IsTodo r j → IsTodo (record r { near_unsure = i ∷ r.near_unsure }) j
      three (inl there) = inl there
      three (inr (inl there)) = inr (inl there)
      three (inr (inr (inl there))) = inr (inr (inl (Contains-later i r.near_unsure j there)))
      three (inr (inr (inr there))) = inr (inr (inr there))

      four : IsTodo r j → IsTodo (record r { far_unsure = i ∷ r.far_unsure }) j
      four (inl there) = inl there
      four (inr (inl there)) = inr (inl there)
      four (inr (inr (inl there))) = inr (inr (inl there))
      four (inr (inr (inr there))) = inr (inr (inr (Contains-later i r.far_unsure j there)))

  pub taken_was : (s r : Reach) (i : ℕ) → IsTaken s i r → IsTodo s i
  taken_was s r i taken =
      for_queues i r (λ (x : Reach). IsTodo x i) (inl (Contains-here i r.near)) (inr (inl (Contains-here i r.far)))
      (inr (inr (inl (Contains-here i r.near_unsure))))
      (inr (inr (inr (Contains-here i r.far_unsure))))
      s
      taken.queues

  pub IsReach-taken : (s r : Reach) (i : ℕ) → IsTaken s i r → IsReach w first limit s → IsReach w first limit r
  IsReach-taken s r i taken is = record {
    one_each = ap (λ (l : List ℕ). length l) taken.costs ∙ is.one_each;
    by_each = ap (λ (l : List Hop). length l) taken.by ∙ is.by_each;
    lanes_each = ap (λ (l : List ℕ). length l) taken.lane_costs ∙ is.lanes_each;
    capped = λ j. omega (arith, same j, is.capped j);
    lanes_capped = λ q. omega (arith, same_lane q, is.lanes_capped q);
    by_lane = λ j below. omega (arith, same j, same_lane (lane_of w j), is.by_lane j below);
    todo = λ j todo. is.todo j (taken_before s r i taken j todo);
    reached = λ j d below less. reached_by j d (is.reached j d below (omega (arith, less, same j)));
  }
    where
      same : (j : ℕ) → slice_index r.costs j ≡ slice_index s.costs j
      same j = ap (λ (l : List ℕ). slice_index l j) taken.costs

      same_lane : (q : ℕ) → slice_index r.lane_costs q ≡ slice_index s.lane_costs q
      same_lane q = ap (λ (l : List ℕ). slice_index l q) taken.lane_costs

      reached_by : (j : ℕ) (d : Hop) → IsReachedBy w first s j (slice_index_or s.by j d) → IsReachedBy w first r j
          (slice_index_or r.by j d)
      reached_by j d by_it = subst (λ (l : List Hop). IsReachedBy w first r j (slice_index_or l j d)) (sym taken.by)
          (record {
            next = by_it.next;
            hop = by_it.hop;
            on = by_it.on;
            from_first = λ e. omega (arith, by_it.from_first e, same j);
            from_other = λ e. omega (arith, by_it.from_other e, same j, same (slice_index_or s.by j d).item);
          })

  -- what is of use is the same when an item is taken
  most-taken : (s r : Reach) (i : ℕ) → IsTaken s i r → (q : ℕ)
      → most_of_use w bounds first r q ≡ most_of_use w bounds first s q
  most-taken s r i taken q =
      ap (λ (l : List ℕ). if eqb q (lane_of w first) then slice_index l first
      else slice_index l first - slice_index bounds q) taken.costs

  -- what was followed before the item was taken
  followed_taken : (s r : Reach) (i : ℕ) → IsTaken s i r → (j c : ℕ) → IsFollowed w bounds first s j c
      → IsFollowed w bounds first r j c
  followed_taken s r i taken j c led t there rescuer =
      let before = led t there rescuer in
      let same = most-taken s r i taken (lane_of w t.item) in (
        omega (arith, before.0, same, ap (λ (l : List ℕ). slice_index l t.item) taken.costs),
        omega
            (arith, before.1, same, ap (λ (l : List ℕ). slice_index l (lane_of w t.item)) taken.lane_costs),
      )

  pub same_cost : (s r : Reach) (i : ℕ) → IsTaken s i r → (j : ℕ) → slice_index r.costs j ≡ slice_index s.costs j
  same_cost s r i taken j = ap (λ (l : List ℕ). slice_index l j) taken.costs

  pub IsGoing-next : (s r end : Reach) (i cost : ℕ) → IsGoing w bounds first limit s → IsTaken s i r
      → cost ≡ slice_index r.costs i → end ≡ expand w on bounds first i cost r → IsGoing w bounds first limit end
  IsGoing-next s r end i cost going taken costs is =
      let todo = going.reach.todo i (taken_was s r i taken) in
      let grown = Grown-expand w first limit wiring on are bounds i cost r (IsReach-taken s r i taken going.reach)
      todo.1
      (λ other. omega (arith, costs)) in
      subst (IsGoing w bounds first limit) (sym is) (record {
        reach = grown.0.reach;
        begun = kept grown.0.later first 0 (followed_taken s r i taken first 0 going.begun);
        followed = λ j below. followed grown.0.later grown.1 j below (cases_eq j i) (going.followed j below)
            (grown.0.later.noted j);
      })
    where
      next : Reach
      next = expand w on bounds first i cost r

      kept : Later r next → (j c : ℕ) → IsFollowed w bounds first r j c → IsFollowed w bounds first next j c
      kept later j c = IsFollowed-later w bounds first limit wiring on are r next j c later

      followed : Later r next → IsFollowed w bounds first next i cost → (j : ℕ) → j < items w
          → (j ≡ i) ⊎ (j ≢ i) → IsTodo s j ⊎ IsFollowed w bounds first s j (slice_index s.costs j)
          → (slice_index next.costs j ≡ slice_index r.costs j) ⊎ IsTodo next j
          → IsTodo next j ⊎ IsFollowed w bounds first next j (slice_index next.costs j)
      followed later led j below which before (inr todo) = inl todo
      followed later led j below (inl it) before (inl same) =
          let now : slice_index next.costs j ≡ cost = same ∙ ap (slice_index r.costs) it ∙ sym costs in
          inr (subst (λ (c : ℕ). IsFollowed w bounds first next j c) (sym now)
          (subst (λ (k : ℕ). IsFollowed w bounds first next k cost) (sym it) led))
      followed later led j below (inr other) (inl todo) (inl same) = elim (taken_todo s r i taken j todo) [
        | inl it ↦ absurd (other it)
        | inr stays ↦ inl (later.kept j stays)
      ]
      followed later led j below (inr other) (inr done) (inl same) =
          let now : slice_index next.costs j ≡ slice_index s.costs j = same ∙ same_cost s r i taken j in
          inr (subst (λ (c : ℕ). IsFollowed w bounds first next j c) (sym now)
          (kept later j (slice_index s.costs j) (followed_taken s r i taken j (slice_index s.costs j) done)))

  -- less is left to do
  pub work-taken : (s r : Reach) (i : ℕ) → IsTaken s i r → work r + 1 ≡ work s
  work-taken s r i taken = for_queues i r (λ (x : Reach). work r + 1 ≡ work x) (omega arith) (omega arith) (omega arith)
      (omega arith) s taken.queues

  pub work-less : (s r end : Reach) (i cost : ℕ) → IsGoing w bounds first limit s → IsTaken s i r
      → cost ≡ slice_index r.costs i → end ≡ expand w on bounds first i cost r → work end < work s
  work-less s r end i cost going taken costs is =
      let todo = going.reach.todo i (taken_was s r i taken) in
      let grown = Grown-expand w first limit wiring on are bounds i cost r (IsReach-taken s r i taken going.reach)
      todo.1
      (λ other. omega (arith, costs)) in
      omega (arith, grown.0.later.work, work-taken s r i taken, ap work is)

  -- ---- the end

  module _ (s : Reach) (going : IsGoing w bounds first limit s) (none : queues s ≡ 0)
      (bounded : AreBounds w bounds first) where
    none_left : (i : ℕ) → ¬ IsTodo s i
    none_left i (inl there) = omega (arith, there.1, none)
    none_left i (inr (inl there)) = omega (arith, there.1, none)
    none_left i (inr (inr (inl there))) = omega (arith, there.1, none)
    none_left i (inr (inr (inr there))) = omega (arith, there.1, none)

    all_done : (i : ℕ) → i < items w → IsFollowed w bounds first s i (slice_index s.costs i)
    all_done i below = elim (going.followed i below) [ inl todo ↦ absurd (none_left i todo) | inr done ↦ done ]

    -- below it, it is of use to come to the item to which a hop leads
    abbrev most : Hop → ℕ
    most h = most_of_use w bounds first s (lane_of w h.flush.item)

    -- a hop from an item costs enough, or is of no use
    hop_enough : (h : Hop) (cost : ℕ) → IsHop w h → lane_of w h.next ≡ lane_of w h.flush.item → h.next < items w →
        HasRescuer w (lane_of w h.next) → IsFollowed w bounds first s h.item cost
        → min (most h) (slice_index s.costs h.next) ≤ cost + hop_cost h
    hop_enough h cost hop on below rescuer led =
        let is = led h.flush hop.declared (subst (HasRescuer w) on rescuer) in
        let lane : min (most h) (slice_index s.costs h.next) ≤ cost + lane_step h.flush = omega
        (arith, going.reach.by_lane h.next below, is.1, ap (slice_index s.lane_costs) on) in
        by h.flush.whole (eqb h.flush.item h.next) refl refl lane is.0
      where
        by : (whole same : Bool) → h.flush.whole ≡ whole → eqb h.flush.item h.next ≡ same
            → min (most h) (slice_index s.costs h.next) ≤ cost + (unsure_part h.flush + (if whole then 3 else 4))
            → min (most h) (slice_index s.costs h.flush.item) ≤ cost + (unsure_part h.flush + 3)
            → min (most h) (slice_index s.costs h.next)
            ≤ cost + (unsure_part h.flush + (3 + length (if whole || same then [] else h.flush.item ∷ [])))
        by true same kind test lane direct = omega arith
        by false true kind test lane direct = omega (
          arith,
          direct,
          ap (slice_index s.costs)
              (eqb-true h.flush.item h.next test),
        )
        by false false kind test lane direct = omega arith

    -- what is of no use costs enough with any hops that lead back to the first item
    no_use : (q cost rest : ℕ) → most_of_use w bounds first s q ≤ cost → slice_index bounds q ≤ rest
        → slice_index s.costs first ≤ cost + rest
    no_use q cost rest least far = by (eqb q (lane_of w first)) least
      where
        by : (b : Bool)
            → (if b then slice_index s.costs first else slice_index s.costs first - slice_index bounds q) ≤ cost
            → slice_index s.costs first ≤ cost + rest
        by true least = omega (arith, least)
        by false least = omega (arith, least, far)

    -- of the lane of the first item, everything is of use that costs less than the cheapest way round so far
    most-first : (q : ℕ) → q ≡ lane_of w first → most_of_use w bounds first s q ≡ slice_index s.costs first
    most-first q same = ap (λ (b : Bool). if b then slice_index s.costs first
        else slice_index s.costs first - slice_index bounds q) (eq-eqb q (lane_of w first) same)

    -- so does a path that leads back to the first item
    path_enough : (i : ℕ) (hops : List Hop) (cost : ℕ) → first < items w → HasRescuer w (lane_of w first)
        → 0 < length (declared_by w first) → IsFollowed w bounds first s i cost → 0 < length hops
        → IsPath w i hops first
        → slice_index s.costs first ≤ cost + hops_cost hops
    path_enough i [] cost below rescuer waits led some path = absurd (omega arith)
    path_enough i (h ∷ []) cost below rescuer waits led some path =
        let led_here : IsFollowed w bounds first s h.item cost =
        subst (λ (k : ℕ). IsFollowed w bounds first s k cost) (sym path.0) led in
        let one = hop_enough h cost path.1 path.2 (subst (λ (k : ℕ). k < items w) (sym path.3) below)
        (subst (λ (k : ℕ). HasRescuer w (lane_of w k)) (sym path.3) rescuer) led_here in
        let all = most-first (lane_of w h.flush.item) (sym path.2 ∙ ap (lane_of w) path.3) in
        omega (arith, one, all, ap (slice_index s.costs) path.3)
    path_enough i (h ∷ g ∷ hops) cost below rescuer waits led some path =
        let led_here : IsFollowed w bounds first s h.item cost =
        subst (λ (k : ℕ). IsFollowed w bounds first s k cost) (sym path.0) led in
        let next : h.next < items w = subst (λ (k : ℕ). k < items w) path.3.0
        (declared-item w g.item g.flush path.3.1.declared) in
        let has : HasRescuer w (lane_of w h.next) = subst (λ (k : ℕ). HasRescuer w (lane_of w k)) path.3.0
        path.3.1.rescuer in
        let one = hop_enough h cost path.1 path.2 next has led_here in
        let far : slice_index bounds (lane_of w h.flush.item) ≤ hops_cost (g ∷ hops) =
        subst (λ (q : ℕ). slice_index bounds q ≤ hops_cost (g ∷ hops)) path.2
        (bounded waits h.next (g ∷ hops) (omega arith) path.3) in
        elim (cases_lt (cost + hop_cost h) (most h)) [
          | inr past ↦ omega (
            arith,
            no_use (lane_of w h.flush.item) (cost + hop_cost h) (hops_cost (g ∷ hops)) past far,
          )
          | inl of_use ↦ omega (
            arith,
            one,
            of_use,
            path_enough h.next (g ∷ hops) (slice_index s.costs h.next) below rescuer waits
                (all_done h.next next) (omega arith) path.3,
          )
        ]

    pub IsSearched-all : first < items w → HasRescuer w (lane_of w first) → IsSearched w first limit s
    IsSearched-all below rescuer = record {
      reach = going.reach;
      least = λ hops some path. omega (
        arith,
        path_enough first hops 0 below rescuer (path_declares w first first hops some path) going.begun some path,
      );
    }
