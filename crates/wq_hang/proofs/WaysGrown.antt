-- A search for ways: each step keeps what holds at each time, and no cost rises.
use Rattle.std.proofs.Common.{◌≡◌, ◌≢◌, ℕ, zero, suc, ◌+◌, ◌*◌, ◌<◌, ◌≤◌, ◌⊎◌, inl, inr, Bool, true, false, ltb, List}
use Rattle.std.proofs.Common.{[]}
use Rattle.std.proofs.Common.{◌∷◌, length, get_or, set, refl, sym, ap, subst, ◌∙◌, arith}
use Rattle.std.specs.Prelude.{Contains, fold, slice_index, slice_index_or, if◌then◌else◌}
use Rattle.std.proofs.lemmas.Bool.{cases_eq, ltb-true, ltb-false, false≢true}
use Rattle.std.proofs.lemmas.List.{get_or-set_same, get_or-set_other, length-set}
use Rattle.wq_items.specs.declared.target.Target.{Target}
use Rattle.wq_items.proofs.Lists.{Contains-later}
use Rattle.wq_core.specs.Wiring.{Wiring, IsWiring, HasRescuer, items, lane_of, declared_by}
use Rattle.wq_core.proofs.Wirings.{lane_of-within}
use Rattle.wq_hang.specs.declared.hop.Hop.{Hop}
use Rattle.wq_hang.specs.Walk.{IsHop}
use Rattle.wq_hang.specs.Search.{hop_cost, Reach, IsTodo, with_todo, reached, reach, hop_to, reach_all, with_lane_cost}
use Rattle.wq_hang.specs.Search.{reach_lane, step, lane_step, to_target, to_lane, to_both, AreItemsOn}
use Rattle.wq_hang.specs.WaysFor.{begin_at, begin_all, start_lane, follow_below, expand_below, BeginsAt, IsReachedFrom}
use Rattle.wq_hang.specs.WaysFor.{IsReachFrom, AreFollowed}
use Rattle.wq_hang.proofs.Declared.{declared-target}
use Rattle.wq_hang.proofs.Reaching.{Later, Later-same, Later-both, Later-reached, cost_at, todo_cases, kept_with}
use Rattle.wq_hang.proofs.Reaching.{todo_with, cases_with, queues_with, total-set, total, work, queues}
use Rattle.wq_hang.proofs.Reaching.{lane_step-enough, lane_costs-all, direct-enough}

module _ (w : Wiring) (starts : List ℕ) (limit : ℕ) where
  -- what holds after a step
  pub record GrownFrom (s r : Reach) : Type 0 where
    pub reach : IsReachFrom w starts limit r
    pub later : Later s r

  pub GrownFrom-same : (s : Reach) → IsReachFrom w starts limit s → GrownFrom s s
  GrownFrom-same s is = record { reach = is; later = Later-same s }

  pub GrownFrom-both : (s r t : Reach) → GrownFrom s r → GrownFrom r t → GrownFrom s t
  GrownFrom-both s r t one two = record { reach = two.reach; later = Later-both s r t one.later two.later }

  -- how an item is reached stays, if what it costs does
  stays_reached : (s r : Reach) (i : ℕ) (h : Hop) → Later s r → slice_index r.costs i ≡ slice_index s.costs i
      → BeginsAt w starts i (slice_index s.costs i) ⊎ IsReachedFrom w s i h
      → BeginsAt w starts i (slice_index r.costs i) ⊎ IsReachedFrom w r i h
  stays_reached s r i h later same (inl begins) =
      inl (subst (λ (c : ℕ). BeginsAt w starts i c) (sym same) begins)
  stays_reached s r i h later same (inr is) = inr (record {
    next = is.next;
    hop = is.hop;
    on = is.on;
    from = omega (arith, is.from, same, later.less h.item);
    behind = omega (arith, is.behind, same);
  })

  -- ---- one hop

  -- a hop that leads on from an item that is reached
  record GoesOn (s : Reach) (h : Hop) (cost : ℕ) : Type 0 where
    below : h.next < items w
    rescuer : HasRescuer w (lane_of w h.next)
    hop : IsHop w h
    on : lane_of w h.next ≡ lane_of w h.flush.item
    from : slice_index s.costs h.item + hop_cost h ≤ cost
    behind : 1 < cost

  IsReachFrom-reached : (near : Bool) (cost : ℕ) (s : Reach) (h : Hop) → IsReachFrom w starts limit s
      → GoesOn s h cost → cost < slice_index s.costs h.next → IsReachFrom w starts limit (reached near cost s h)
  IsReachFrom-reached near cost s h is goes less = record {
    one_each = later.one_each ∙ is.one_each;
    by_each = later.by_each ∙ is.by_each;
    lanes_each = is.lanes_each;
    capped = λ i. omega (arith, later.less i, is.capped i);
    lanes_capped = is.lanes_capped;
    by_lane = λ i below. omega (arith, later.less i, is.by_lane i below);
    rescuer = λ i below low. elim (cost_at near cost s h i within) [
      | inl here ↦ subst (λ (j : ℕ). HasRescuer w (lane_of w j)) (sym here.0) goes.rescuer
      | inr other ↦ is.rescuer i below (omega (arith, low, other.1))
    ];
    todo = λ i todo. elim (todo_cases near cost s h i todo) [
      | inl before ↦ (
          let was = is.todo i before in
          (was.0, omega (arith, was.1, later.less i))
          )
      | inr same ↦ (
        subst (λ (j : ℕ). j < items w) same goes.below,
        omega (
          arith,
          less,
          is.capped h.next,
          at_next,
          ap (λ (j : ℕ). slice_index (reached near cost s h).costs j) same,
        ),
      )
    ];
    reached = reached_by;
  }
    where
      within : h.next < length s.costs
      within = omega (arith, goes.below, is.one_each)

      later : Later s (reached near cost s h)
      later = Later-reached near cost s h within less

      at_next : slice_index (reached near cost s h).costs h.next ≡ cost
      at_next = get_or-set_same s.costs h.next cost 0 within

      reached_by : (i : ℕ) (d : Hop) → i < items w → slice_index (reached near cost s h).costs i < limit
          → BeginsAt w starts i (slice_index (reached near cost s h).costs i)
          ⊎ IsReachedFrom w (reached near cost s h) i (slice_index_or (set s.by h.next h) i d)
      reached_by i d below low = elim (cost_at near cost s h i within) [
        | inl here ↦ (
            let by_it : get_or (set s.by h.next h) i d ≡ h =
            subst (λ (j : ℕ). get_or (set s.by h.next h) j d ≡ h) (sym here.0)
            (get_or-set_same s.by h.next h d (omega (arith, goes.below, is.by_each))) in
            inr (subst (IsReachedFrom w (reached near cost s h) i) (sym by_it) (record {
              next = sym here.0;
              hop = goes.hop;
              on = goes.on;
              from = omega (arith, goes.from, here.1, later.less h.item);
              behind = omega (arith, goes.behind, here.1);
            }))
            )
        | inr other ↦ (
            let by_same : get_or (set s.by h.next h) i d ≡ get_or s.by i d =
            get_or-set_other s.by h.next i h d other.0 in
            subst (λ (g : Hop). BeginsAt w starts i (slice_index (reached near cost s h).costs i)
            ⊎ IsReachedFrom w (reached near cost s h) i g) (sym by_same)
            (stays_reached s (reached near cost s h) i (get_or s.by i d) later other.1
            (is.reached i d below (omega (arith, low, other.1))))
            )
      ]

  GrownFrom-reach : (near : Bool) (cost : ℕ) (s : Reach) (h : Hop) → IsReachFrom w starts limit s → GoesOn s h cost
      → GrownFrom s (reach near cost s h) × (slice_index (reach near cost s h).costs h.next ≤ cost)
  GrownFrom-reach near cost s h is goes = by (ltb cost (slice_index s.costs h.next)) refl
    where
      by : (b : Bool) → ltb cost (slice_index s.costs h.next) ≡ b
          → GrownFrom s (if b then reached near cost s h else s)
          × (slice_index (if b then reached near cost s h else s).costs h.next ≤ cost)
      by true test =
          let less : cost < slice_index s.costs h.next = ltb-true cost (slice_index s.costs h.next) test in
          let within : h.next < length s.costs = omega (arith, goes.below, is.one_each) in (
            record {
              reach = IsReachFrom-reached near cost s h is goes less;
              later = Later-reached near cost s h within less;
            },
            omega (arith, get_or-set_same s.costs h.next cost 0 within),
          )
      by false test = (GrownFrom-same s is, ltb-false cost (slice_index s.costs h.next) test)

  -- ---- where a way begins

  -- the item with its new cost
  abbrev begun : Bool → ℕ → Reach → ℕ → Reach
  begun near cost s i = with_todo near false i (record s { costs = set s.costs i cost })

  begun_at : (near : Bool) (cost : ℕ) (s : Reach) (i j : ℕ) → i < length s.costs
      → ((j ≡ i) × (slice_index (begun near cost s i).costs j ≡ cost))
      ⊎ ((j ≢ i) × (slice_index (begun near cost s i).costs j ≡ slice_index s.costs j))
  begun_at near cost s i j within = elim (cases_eq j i) [
    | inl same ↦ inl (
      same,
      subst (λ (k : ℕ). get_or (set s.costs i cost) k 0 ≡ cost) (sym same)
          (get_or-set_same s.costs i cost 0 within),
    )
    | inr other ↦ inr (other, get_or-set_other s.costs i j cost 0 other)
  ]

  Later-begun : (near : Bool) (cost : ℕ) (s : Reach) (i : ℕ) → i < length s.costs → cost < slice_index s.costs i
      → Later s (begun near cost s i)
  Later-begun near cost s i within less = record {
    one_each = length-set s.costs i cost;
    by_each = refl;
    lanes_each = refl;
    less = λ j. elim (begun_at near cost s i j within) [
      | inl here ↦ omega (arith, here.1, less, ap (λ (k : ℕ). slice_index s.costs k) here.0)
      | inr other ↦ omega (arith, other.1)
    ];
    lanes_less = λ q. omega arith;
    kept = λ j todo. kept_with near false i (record s { costs = set s.costs i cost }) j todo;
    noted = λ j. elim (begun_at near cost s i j within) [
      | inl here ↦ inr (subst (λ (k : ℕ). IsTodo (begun near cost s i) k) (sym here.0)
          (todo_with near false i (record s { costs = set s.costs i cost })))
      | inr other ↦ inl other.1
    ];
    work = omega (
      arith,
      total-set s.costs i cost within,
      less,
      queues_with near false i (record s { costs = set s.costs i cost }),
    );
  }

  -- a way begins at an item, at a cost of 0 or 1
  record MayBegin (i cost : ℕ) : Type 0 where
    below : i < items w
    rescuer : HasRescuer w (lane_of w i)
    begins : BeginsAt w starts i cost

  IsReachFrom-begun : (near : Bool) (cost : ℕ) (s : Reach) (i : ℕ) → IsReachFrom w starts limit s → MayBegin i cost
      → cost < slice_index s.costs i → IsReachFrom w starts limit (begun near cost s i)
  IsReachFrom-begun near cost s i is may less = record {
    one_each = later.one_each ∙ is.one_each;
    by_each = is.by_each;
    lanes_each = is.lanes_each;
    capped = λ j. omega (arith, later.less j, is.capped j);
    lanes_capped = is.lanes_capped;
    by_lane = λ j below. omega (arith, later.less j, is.by_lane j below);
    rescuer = λ j below low. elim (begun_at near cost s i j within) [
      | inl here ↦ subst (λ (k : ℕ). HasRescuer w (lane_of w k)) (sym here.0) may.rescuer
      | inr other ↦ is.rescuer j below (omega (arith, low, other.1))
    ];
    todo = λ j todo. elim (cases_with near false i (record s { costs = set s.costs i cost }) j todo) [
      | inl before ↦ (
          let was = is.todo j before in
          (was.0, omega (arith, was.1, later.less j))
          )
      | inr same ↦ (
        subst (λ (k : ℕ). k < items w) same may.below,
        omega (
          arith,
          less,
          is.capped i,
          get_or-set_same s.costs i cost 0 within,
          ap (λ (k : ℕ). slice_index (begun near cost s i).costs k) same,
        ),
      )
    ];
    reached = λ j d below low. elim (begun_at near cost s i j within) [
      | inl here ↦ inl (subst (λ (c : ℕ). BeginsAt w starts j c) (sym here.1)
          (subst (λ (k : ℕ). BeginsAt w starts k cost) (sym here.0) may.begins))
      | inr other ↦ stays_reached s (begun near cost s i) j (slice_index_or s.by j d) later other.1
          (is.reached j d below (omega (arith, low, other.1)))
    ];
  }
    where
      within : i < length s.costs
      within = omega (arith, may.below, is.one_each)

      later : Later s (begun near cost s i)
      later = Later-begun near cost s i within less

  pub GrownFrom-begin_at : (near : Bool) (cost : ℕ) (s : Reach) (i : ℕ) → IsReachFrom w starts limit s → i < items w
      → HasRescuer w (lane_of w i) → BeginsAt w starts i cost
      → GrownFrom s (begin_at near cost s i) × (slice_index (begin_at near cost s i).costs i ≤ cost)
  GrownFrom-begin_at near cost s i is below rescuer begins = by (ltb cost (slice_index s.costs i)) refl
    where
      by : (b : Bool) → ltb cost (slice_index s.costs i) ≡ b
          → GrownFrom s (if b then begun near cost s i else s)
          × (slice_index (if b then begun near cost s i else s).costs i ≤ cost)
      by true test =
          let less : cost < slice_index s.costs i = ltb-true cost (slice_index s.costs i) test in
          let within : i < length s.costs = omega (arith, below, is.one_each) in (
            record {
              reach = IsReachFrom-begun near cost s i is
                  (record { below = below; rescuer = rescuer; begins = begins }) less;
              later = Later-begun near cost s i within less;
            },
            omega (arith, get_or-set_same s.costs i cost 0 within),
          )
      by false test = (GrownFrom-same s is, ltb-false cost (slice_index s.costs i) test)

  -- ---- to come to any item of a lane

  -- the lane's new cost
  GrownFrom-lane_cost : (q cost : ℕ) (s r : Reach) → GrownFrom s r → cost < slice_index r.lane_costs q
      → q < w.lanes → ((j : ℕ) → j < items w → lane_of w j ≡ q → slice_index r.costs j ≤ cost)
      → GrownFrom s (with_lane_cost q cost r) × (slice_index (with_lane_cost q cost r).lane_costs q ≤ cost)
  GrownFrom-lane_cost q cost s r grown less exists each = (
    record {
      reach = record {
        one_each = grown.reach.one_each;
        by_each = grown.reach.by_each;
        lanes_each = length-set r.lane_costs q cost ∙ grown.reach.lanes_each;
        capped = grown.reach.capped;
        lanes_capped = λ p. omega (arith, lanes_less p, grown.reach.lanes_capped p);
        by_lane = by_lane;
        rescuer = grown.reach.rescuer;
        todo = grown.reach.todo;
        reached = λ j d below low. elim (grown.reach.reached j d below low) [
          | inl begins ↦ inl begins
          | inr was ↦ inr (record {
            next = was.next;
            hop = was.hop;
            on = was.on;
            from = was.from;
            behind = was.behind;
          })
        ];
      };
      later = record {
        one_each = grown.later.one_each;
        by_each = grown.later.by_each;
        lanes_each = length-set r.lane_costs q cost ∙ grown.later.lanes_each;
        less = grown.later.less;
        lanes_less = λ p. omega (arith, lanes_less p, grown.later.lanes_less p);
        kept = grown.later.kept;
        noted = grown.later.noted;
        work = grown.later.work;
      };
    },
    omega (arith, at_q),
  )
    where
      at_q : get_or (set r.lane_costs q cost) q 0 ≡ cost
      at_q = get_or-set_same r.lane_costs q cost 0 (omega (arith, exists, grown.reach.lanes_each))

      lanes_less : (p : ℕ) → get_or (set r.lane_costs q cost) p 0 ≤ get_or r.lane_costs p 0
      lanes_less p = elim (cases_eq p q) [
        | inl same ↦ subst (λ (k : ℕ). get_or (set r.lane_costs q cost) k 0 ≤ get_or r.lane_costs k 0) (sym same)
            (omega (arith, at_q, less))
        | inr other ↦ omega (arith, get_or-set_other r.lane_costs q p cost 0 other)
      ]

      by_lane : (j : ℕ) → j < items w
          → slice_index r.costs j ≤ get_or (set r.lane_costs q cost) (lane_of w j) 0
      by_lane j below = elim (cases_eq (lane_of w j) q) [
        | inl same ↦ subst (λ (k : ℕ). slice_index r.costs j ≤ get_or (set r.lane_costs q cost) k 0) (sym same)
            (omega (arith, at_q, each j below same))
        | inr other ↦ omega (
          arith,
          get_or-set_other r.lane_costs q (lane_of w j) cost 0 other,
          grown.reach.by_lane j below,
        )
      ]

  -- each of these costs no more than that
  abbrev CostNoMore : Reach → List ℕ → ℕ → Type 0
  CostNoMore s js cost = (j : ℕ) → Contains js j → slice_index s.costs j ≤ cost

  first_too : (s r : Reach) (x : ℕ) (js : List ℕ) (cost : ℕ) → Later s r → slice_index s.costs x ≤ cost
      → CostNoMore r js cost → CostNoMore r (x ∷ js) cost
  first_too s r x js cost later here rest j (zero, lt, at) =
      subst (λ (k : ℕ). slice_index r.costs k ≤ cost) at (omega (arith, here, later.less x))
  first_too s r x js cost later here rest j (suc k, lt, at) = rest j (k, omega arith, at)

  GrownFrom-all : (near : Bool) (cost i : ℕ) (t : Target) (js : List ℕ) (s : Reach) → IsReachFrom w starts limit s
      → ((r : Reach) → Later s r → (j : ℕ) → Contains js j → GoesOn r (hop_to i t j) cost)
      → GrownFrom s (reach_all near cost i t js s) × CostNoMore (reach_all near cost i t js s) js cost
  GrownFrom-all near cost i t [] s is goes =
      (GrownFrom-same s is, λ j there. absurd (omega (arith, there.1)))
  GrownFrom-all near cost i t (x ∷ js) s is goes =
      let one = GrownFrom-reach near cost s (hop_to i t x) is (goes s (Later-same s) x (0, omega arith, refl)) in
      let r : Reach = reach near cost s (hop_to i t x) in
      let rest = GrownFrom-all near cost i t js r one.0.reach
      (λ e later j there. goes e (Later-both s r e one.0.later later) j (Contains-later x js j there)) in
      let end : Reach = reach_all near cost i t js r in (
        GrownFrom-both s r end one.0 rest.0,
        first_too r end x js cost rest.0.later one.1 rest.1,
      )

  lane_costs-begin_at : (near : Bool) (cost : ℕ) (s : Reach) (i : ℕ)
      → (begin_at near cost s i).lane_costs ≡ s.lane_costs
  lane_costs-begin_at near cost s i = by (ltb cost (slice_index s.costs i))
    where
      by : (b : Bool) → (if b then begun near cost s i else s).lane_costs ≡ s.lane_costs
      by true = refl
      by false = refl

  lane_costs-begin_all : (js : List ℕ) (s : Reach) → (begin_all js s).lane_costs ≡ s.lane_costs
  lane_costs-begin_all [] s = refl
  lane_costs-begin_all (j ∷ js) s =
      lane_costs-begin_all js (begin_at false 1 s j) ∙ lane_costs-begin_at false 1 s j

  GrownFrom-begin_all : (js : List ℕ) (s : Reach) → IsReachFrom w starts limit s
      → ((j : ℕ) → Contains js j → MayBegin j 1)
      → GrownFrom s (begin_all js s) × CostNoMore (begin_all js s) js 1
  GrownFrom-begin_all [] s is may = (GrownFrom-same s is, λ j there. absurd (omega (arith, there.1)))
  GrownFrom-begin_all (x ∷ js) s is may =
      let here = may x (0, omega arith, refl) in
      let one = GrownFrom-begin_at false 1 s x is here.below here.rescuer here.begins in
      let r : Reach = begin_at false 1 s x in
      let rest = GrownFrom-begin_all js r one.0.reach (λ j there. may j (Contains-later x js j there)) in
      let end : Reach = begin_all js r in (
        GrownFrom-both s r end one.0 rest.0,
        first_too r end x js 1 rest.0.later one.1 rest.1,
      )

  module _ (wiring : IsWiring w) (on : List (List ℕ)) (are : AreItemsOn w on) where
    -- ways begin at all items on the lane of a start
    pub GrownFrom-start_lane : (i : ℕ) (s : Reach) → IsReachFrom w starts limit s → Contains starts i → i < items w
        → HasRescuer w (lane_of w i)
        → GrownFrom s (start_lane (lane_of w i) (slice_index_or on (lane_of w i) []) s)
        × (slice_index (start_lane (lane_of w i) (slice_index_or on (lane_of w i) []) s).lane_costs (lane_of w i) ≤ 1)
    GrownFrom-start_lane i s is starts_at below rescuer = by (ltb 1 (slice_index s.lane_costs q)) refl
      where
        q : ℕ
        q = lane_of w i

        js : List ℕ
        js = slice_index_or on (lane_of w i) []

        may : (j : ℕ) → Contains js j → MayBegin j 1
        may j there =
            let at = are.within q j there in
            record {
              below = at.0;
              rescuer = subst (HasRescuer w) (sym at.1) rescuer;
              begins = inr (i, starts_at, sym at.1, at.0, refl);
            }

        by : (b : Bool) → ltb 1 (slice_index s.lane_costs (lane_of w i)) ≡ b
            → GrownFrom s (if b then with_lane_cost (lane_of w i) 1 (begin_all (slice_index_or on (lane_of w i) []) s)
            else s)
            × (slice_index (if b then with_lane_cost (lane_of w i) 1
            (begin_all (slice_index_or on (lane_of w i) []) s) else s).lane_costs (lane_of w i) ≤ 1)
        by false test = (GrownFrom-same s is, ltb-false 1 (slice_index s.lane_costs (lane_of w i)) test)
        by true test =
            let all = GrownFrom-begin_all js s is may in
            let less : 1 < slice_index s.lane_costs (lane_of w i) =
            ltb-true 1 (slice_index s.lane_costs (lane_of w i)) test in
            let same : slice_index (begin_all js s).lane_costs q ≡ slice_index s.lane_costs q =
            ap (λ (l : List ℕ). slice_index l q) (lane_costs-begin_all js s) in
            GrownFrom-lane_cost q 1 s (begin_all js s) all.0 (omega (arith, less, same))
            (lane_of-within w wiring i below)
            (λ j exists here. all.1 j (subst (λ (p : ℕ). Contains (slice_index_or on p []) j) here (are.all j exists)))

    -- ---- one flush

    -- item i, which costs no more than that, declares the flush
    record LeadsOnFrom (s : Reach) (i : ℕ) (t : Target) (cost : ℕ) : Type 0 where
      declared : Contains (declared_by w i) t
      rescuer : HasRescuer w (lane_of w i)
      to : HasRescuer w (lane_of w t.item)
      from : slice_index s.costs i ≤ cost

    goes_on : (s r : Reach) (i : ℕ) (t : Target) (cost j : ℕ) → LeadsOnFrom s i t cost → Later s r → j < items w
        → lane_of w j ≡ lane_of w t.item → GoesOn r (hop_to i t j) (cost + lane_step t)
    goes_on s r i t cost j leads later below same = record {
      below = below;
      rescuer = subst (HasRescuer w) (sym same) leads.to;
      hop = record { declared = leads.declared; rescuer = leads.rescuer };
      on = same;
      from = omega (arith, leads.from, later.less i, lane_step-enough w 0 limit i t j);
      behind = omega (arith, three_at_least t);
    }
      where
        three_at_least : (u : Target) → 3 ≤ lane_step u
        three_at_least u = by u.whole
          where
            by : (b : Bool) → 3 ≤ (if u.unsure then 32768 else 0) + (if b then 3 else 4)
            by true = omega arith
            by false = omega arith

    GrownFrom-lane : (near : Bool) (cost i : ℕ) (t : Target) (s : Reach) → IsReachFrom w starts limit s
        → LeadsOnFrom s i t cost → t.item < items w
        → GrownFrom s (reach_lane near (cost + lane_step t) i t (lane_of w t.item)
        (slice_index_or on (lane_of w t.item) []) s)
        × (slice_index (reach_lane near (cost + lane_step t) i t (lane_of w t.item)
        (slice_index_or on (lane_of w t.item) []) s).lane_costs (lane_of w t.item) ≤ cost + lane_step t)
    GrownFrom-lane near cost i t s is leads below =
        by (ltb (cost + lane_step t) (slice_index s.lane_costs q)) refl
      where
        q : ℕ
        q = lane_of w t.item

        js : List ℕ
        js = slice_index_or on (lane_of w t.item) []

        all_of : Reach
        all_of = reach_all near (cost + lane_step t) i t js s

        by : (b : Bool) → ltb (cost + lane_step t) (slice_index s.lane_costs (lane_of w t.item)) ≡ b
            → GrownFrom s (if b then with_lane_cost (lane_of w t.item) (cost + lane_step t) all_of else s)
            × (slice_index (if b then with_lane_cost (lane_of w t.item) (cost + lane_step t) all_of else s).lane_costs
            (lane_of w t.item) ≤ cost + lane_step t)
        by false test =
            (GrownFrom-same s is, ltb-false (cost + lane_step t) (slice_index s.lane_costs (lane_of w t.item)) test)
        by true test =
            let less : cost + lane_step t < slice_index s.lane_costs (lane_of w t.item) =
            ltb-true (cost + lane_step t) (slice_index s.lane_costs (lane_of w t.item)) test in
            let all = GrownFrom-all near (cost + lane_step t) i t js s is (λ r later j there.
            let at = are.within q j there in
            goes_on s r i t cost j leads later at.0 at.1) in
            let same : slice_index all_of.lane_costs q ≡ slice_index s.lane_costs q =
            ap (λ (l : List ℕ). slice_index l q) (lane_costs-all w 0 limit near (cost + lane_step t) i t js s) in
            GrownFrom-lane_cost q (cost + lane_step t) s all_of all.0 (omega (arith, less, same))
            (lane_of-within w wiring t.item below)
            (λ j exists here. all.1 j (subst (λ (p : ℕ). Contains (slice_index_or on p []) j) here (are.all j exists)))

    -- what costs as much as the limit isn't less than any cost
    GrownFrom-target : (cost i : ℕ) (t : Target) (s : Reach) → IsReachFrom w starts limit s → LeadsOnFrom s i t cost
        → t.item < items w → GrownFrom s (to_target limit i cost s t)
        × (slice_index (to_target limit i cost s t).costs t.item ≤ cost + step t)
    GrownFrom-target cost i t s is leads below = by (ltb (cost + step t) limit) refl
      where
        by : (b : Bool) → ltb (cost + step t) limit ≡ b
            → GrownFrom s (if b then reach true (cost + step t) s (hop_to i t t.item) else s)
            × (slice_index (if b then reach true (cost + step t) s (hop_to i t t.item) else s).costs t.item
            ≤ cost + step t)
        by true test = GrownFrom-reach true (cost + step t) s (hop_to i t t.item) is (record {
          below = below;
          rescuer = leads.to;
          hop = record { declared = leads.declared; rescuer = leads.rescuer };
          on = refl;
          from = omega (arith, leads.from, direct-enough w 0 limit wiring on are [] t i);
          behind = omega arith;
        })
        by false test = (
          GrownFrom-same s is,
          omega (arith, ltb-false (cost + step t) limit test, is.capped t.item),
        )

    GrownFrom-to_lane : (cost i : ℕ) (t : Target) (s : Reach) → IsReachFrom w starts limit s → LeadsOnFrom s i t cost
        → t.item < items w → GrownFrom s (to_lane w on limit i cost s t)
        × (slice_index (to_lane w on limit i cost s t).lane_costs (lane_of w t.item) ≤ cost + lane_step t)
    GrownFrom-to_lane cost i t s is leads below = by (ltb (cost + lane_step t) limit) refl
      where
        end : Reach
        end = reach_lane t.whole (cost + lane_step t) i t (lane_of w t.item) (slice_index_or on (lane_of w t.item) []) s

        by : (b : Bool) → ltb (cost + lane_step t) limit ≡ b → GrownFrom s (if b then end else s)
            × (slice_index (if b then end else s).lane_costs (lane_of w t.item) ≤ cost + lane_step t)
        by true test = GrownFrom-lane t.whole cost i t s is leads below
        by false test = (
          GrownFrom-same s is,
          omega (arith, ltb-false (cost + lane_step t) limit test, is.lanes_capped (lane_of w t.item)),
        )

    -- the flush leads on
    abbrev IsLed : Reach → ℕ → Target → Type 0
    IsLed r cost t = HasRescuer w (lane_of w t.item)
        → (slice_index r.costs t.item ≤ cost + step t)
        × (slice_index r.lane_costs (lane_of w t.item) ≤ cost + lane_step t)

    GrownFrom-follow : (i cost : ℕ) (s : Reach) (t : Target) → IsReachFrom w starts limit s
        → HasRescuer w (lane_of w i) → Contains (declared_by w i) t → slice_index s.costs i ≤ cost
        → GrownFrom s (follow_below w on limit i cost s t) × IsLed (follow_below w on limit i cost s t) cost t
    GrownFrom-follow i cost s t is rescuer declared from =
        by (slice_index_or w.bare (lane_of w t.item) false) refl
      where
        below : t.item < items w
        below = declared-target w i t wiring declared

        led : HasRescuer w (lane_of w t.item) → GrownFrom s (to_both w on limit i cost s t)
            × IsLed (to_both w on limit i cost s t) cost t
        led to =
            let one = GrownFrom-target cost i t s is
            (record { declared = declared; rescuer = rescuer; to = to; from = from }) below in
            let r : Reach = to_target limit i cost s t in
            let two = GrownFrom-to_lane cost i t r one.0.reach (record {
              declared = declared;
              rescuer = rescuer;
              to = to;
              from = omega (arith, from, one.0.later.less i);
            }) below in (
              GrownFrom-both s r (to_both w on limit i cost s t) one.0 two.0,
              λ rescued. (omega (arith, one.1, two.0.later.less t.item), two.1),
            )

        by : (b : Bool) → slice_index_or w.bare (lane_of w t.item) false ≡ b
            → GrownFrom s (if b then s else to_both w on limit i cost s t)
            × IsLed (if b then s else to_both w on limit i cost s t) cost t
        by true bare = (GrownFrom-same s is, λ rescued. absurd (false≢true (sym rescued ∙ bare)))
        by false to = led to

    GrownFrom-follows : (i cost : ℕ) (ts : List Target) (s : Reach) → IsReachFrom w starts limit s
        → HasRescuer w (lane_of w i) → ((t : Target) → Contains ts t → Contains (declared_by w i) t)
        → slice_index s.costs i ≤ cost
        → GrownFrom s (fold (follow_below w on limit i cost) s ts)
        × ((t : Target) → Contains ts t → IsLed (fold (follow_below w on limit i cost) s ts) cost t)
    GrownFrom-follows i cost [] s is rescuer declared from =
        (GrownFrom-same s is, λ t there. absurd (omega (arith, there.1)))
    GrownFrom-follows i cost (x ∷ ts) s is rescuer declared from =
        let one = GrownFrom-follow i cost s x is rescuer (declared x (0, omega arith, refl)) from in
        let r : Reach = follow_below w on limit i cost s x in
        let rest = GrownFrom-follows i cost ts r one.0.reach rescuer
        (λ t there. declared t (Contains-later x ts t there))
        (omega (arith, from, one.0.later.less i)) in
        let end : Reach = fold (follow_below w on limit i cost) r ts in (
          GrownFrom-both s r end one.0 rest.0,
          λ t there. each end (led_later r end rest.0.later one.1) rest.1 t there,
        )
      where
        led_later : (r end : Reach) → Later r end → IsLed r cost x → IsLed end cost x
        led_later r end later led rescued =
            let is = led rescued in (
              omega (arith, is.0, later.less x.item),
              omega (arith, is.1, later.lanes_less (lane_of w x.item)),
            )

        each : (end : Reach) → IsLed end cost x → ((t : Target) → Contains ts t → IsLed end cost t) → (t : Target)
            → Contains (x ∷ ts) t → IsLed end cost t
        each end here rest t (zero, lt, at) = subst (λ (u : Target). IsLed end cost u) at here
        each end here rest t (suc k, lt, at) = rest t (k, omega arith, at)

    -- all flushes of an item
    pub GrownFrom-expand : (i : ℕ) (s : Reach) → IsReachFrom w starts limit s → HasRescuer w (lane_of w i)
        → GrownFrom s (expand_below w on limit i s)
        × ((t : Target) → Contains (declared_by w i) t → IsLed (expand_below w on limit i s) (slice_index s.costs i) t)
    GrownFrom-expand i s is rescuer =
        GrownFrom-follows i (slice_index s.costs i) (declared_by w i) s is rescuer (λ t there. there) (omega arith)
