-- What a search finds: each step keeps what holds at each time, and no cost rises.
use Rattle.std.proofs.Common.{◌≡◌, ◌≢◌, ℕ, zero, suc, ◌+◌, ◌-◌, ◌*◌, min, ◌<◌, ◌≤◌, ◌⊎◌, inl, inr, Bool, true, false}
use Rattle.std.proofs.Common.{eqb, ltb, List, [], ◌∷◌, length, get_or, set, refl, sym, ap, subst, ◌∙◌, arith}
use Rattle.std.specs.Prelude.{Contains, fold, slice_index, slice_index_or, if◌then◌else◌, ◌||◌, ◌&&◌, not}
use Rattle.std.proofs.lemmas.Bool.{cases_eq, ltb-true, ltb-false, both_ways, false≢true, eq-eqb}
use Rattle.std.proofs.lemmas.List.{get_or-set_same, get_or-set_other, length-set, length-append}
use Rattle.std.proofs.lemmas.List.Elements.{Contains-append_left, Contains-push, Contains-push_cases}
use Rattle.wq_items.specs.declared.target.Target.{Target}
use Rattle.wq_items.proofs.Lists.{Contains-later}
use Rattle.wq_core.specs.Wiring.{Wiring, IsWiring, HasRescuer, items, lane_of, declared_by}
use Rattle.wq_core.proofs.Wirings.{lane_of-within}
use Rattle.wq_hang.specs.declared.hop.Hop.{Hop}
use Rattle.wq_hang.specs.Walk.{IsHop, unsure_part}
use Rattle.wq_hang.specs.Search.{hop_cost, Reach, IsTodo, and_then, with_todo, reached, reach, hop_to, reach_all}
use Rattle.wq_hang.specs.Search.{with_lane_cost, reach_lane}
use Rattle.wq_hang.specs.Search.{step, lane_step, most_of_use, to_target, to_lane, to_both, follow, expand}
use Rattle.wq_hang.specs.Search.{AreItemsOn, IsReachedBy, IsReach, IsFollowed}
use Rattle.wq_hang.proofs.Declared.{declared-target}

-- ---- how much is left to do

abbrev pub total : List ℕ → ℕ
total [] = 0
total (x ∷ xs) = x + total xs

-- how many items are to be gone on from
abbrev pub queues : Reach → ℕ
queues s = length s.near + (length s.far + (length s.near_unsure + length s.far_unsure))

abbrev pub work : Reach → ℕ
work s = 2 * total s.costs + queues s

pub total-set : (xs : List ℕ) (i x : ℕ) → i < length xs → total (set xs i x) + get_or xs i 0 ≡ total xs + x
total-set [] i x lt = absurd (omega arith)
total-set (y ∷ xs) zero x lt = omega arith
total-set (y ∷ xs) (suc i) x lt = let rest : total (set xs i x) + get_or xs i 0 ≡ total xs + x = total-set xs i x (omega arith) in omega arith

-- ---- a later time

pub record Later (s r : Reach) : Type 0 where
  pub one_each : length r.costs ≡ length s.costs
  pub by_each : length r.by ≡ length s.by
  pub lanes_each : length r.lane_costs ≡ length s.lane_costs
  pub less : (i : ℕ) → slice_index r.costs i ≤ slice_index s.costs i
  pub lanes_less : (q : ℕ) → slice_index r.lane_costs q ≤ slice_index s.lane_costs q
  pub kept : (i : ℕ) → IsTodo s i → IsTodo r i
  pub noted : (i : ℕ) → (slice_index r.costs i ≡ slice_index s.costs i) ⊎ IsTodo r i
  pub work : work r ≤ work s

pub Later-same : (s : Reach) → Later s s
Later-same s = record {
  one_each = refl;
  by_each = refl;
  lanes_each = refl;
  less = λ i. omega arith;
  lanes_less = λ q. omega arith;
  kept = λ i todo. todo;
  noted = λ i. inl refl;
  work = omega arith;
}

pub Later-both : (s r t : Reach) → Later s r → Later r t → Later s t
Later-both s r t one two = record {
  one_each = two.one_each ∙ one.one_each;
  by_each = two.by_each ∙ one.by_each;
  lanes_each = two.lanes_each ∙ one.lanes_each;
  less = λ i. omega (arith, one.less i, two.less i);
  lanes_less = λ q. omega (arith, one.lanes_less q, two.lanes_less q);
  kept = λ i todo. two.kept i (one.kept i todo);
  noted = λ i. elim (two.noted i) [
    | inr todo ↦ inr todo
    | inl same ↦ elim (one.noted i) [ inl before ↦ inl (same ∙ before) | inr todo ↦ inr (two.kept i todo) ]
  ];
  work = omega (arith, one.work, two.work);
}

-- ---- one hop

then-kept : (b : Bool) (i : ℕ) (queue : List ℕ) (j : ℕ) → Contains queue j → Contains (and_then b i queue) j
then-kept true i queue j there = Contains-append_left queue (i ∷ []) j there
then-kept false i queue j there = there

then-cases : (b : Bool) (i : ℕ) (queue : List ℕ) (j : ℕ) → Contains (and_then b i queue) j → Contains queue j ⊎ (i ≡ j)
then-cases true i queue j there = Contains-push_cases queue i j there
then-cases false i queue j there = inl there

pub kept_with : (near unsure : Bool) (i : ℕ) (s : Reach) (j : ℕ) → IsTodo s j → IsTodo (with_todo near unsure i s) j
kept_with near unsure i s j (inl there) = inl (then-kept (near && not unsure) i s.near j there)
kept_with near unsure i s j (inr (inl there)) = inr (inl (then-kept (not near && not unsure) i s.far j there))
kept_with near unsure i s j (inr (inr (inl there))) =
    inr (inr (inl (then-kept (near && unsure) i s.near_unsure j there)))
kept_with near unsure i s j (inr (inr (inr there))) =
    inr (inr (inr (then-kept (not near && unsure) i s.far_unsure j there)))

pub todo_with : (near unsure : Bool) (i : ℕ) (s : Reach) → IsTodo (with_todo near unsure i s) i
todo_with true false i s = inl (Contains-push s.near i)
todo_with false false i s = inr (inl (Contains-push s.far i))
todo_with true true i s = inr (inr (inl (Contains-push s.near_unsure i)))
todo_with false true i s = inr (inr (inr (Contains-push s.far_unsure i)))

pub cases_with : (near unsure : Bool) (i : ℕ) (s : Reach) (j : ℕ) → IsTodo (with_todo near unsure i s) j → IsTodo s j
    ⊎ (i ≡ j)
cases_with near unsure i s j (inl there) =
    elim (then-cases (near && not unsure) i s.near j there) [ inl before ↦ inl (inl before) | inr same ↦ inr same ]
cases_with near unsure i s j (inr (inl there)) =
    elim (then-cases (not near && not unsure) i s.far j there)
    [ inl before ↦ inl (inr (inl before)) | inr same ↦ inr same ]
cases_with near unsure i s j (inr (inr (inl there))) =
    elim (then-cases (near && unsure) i s.near_unsure j there)
    [ inl before ↦ inl (inr (inr (inl before))) | inr same ↦ inr same ]
cases_with near unsure i s j (inr (inr (inr there))) =
    elim (then-cases (not near && unsure) i s.far_unsure j there)
    [ inl before ↦ inl (inr (inr (inr before))) | inr same ↦ inr same ]

pub queues_with : (near unsure : Bool) (i : ℕ) (s : Reach) → queues (with_todo near unsure i s) ≡ queues s + 1
queues_with true false i s = omega (arith, length-append s.near (i ∷ []))
queues_with false false i s = omega (arith, length-append s.far (i ∷ []))
queues_with true true i s = omega (arith, length-append s.near_unsure (i ∷ []))
queues_with false true i s = omega (arith, length-append s.far_unsure (i ∷ []))

-- the same with new costs
abbrev put : ℕ → Reach → Hop → Reach
put cost s h = record s { costs = set s.costs h.next cost; by = set s.by h.next h }

kept_reached : (near : Bool) (cost : ℕ) (s : Reach) (h : Hop) (i : ℕ) → IsTodo s i → IsTodo (reached near cost s h) i
kept_reached near cost s h i todo = kept_with near h.flush.unsure h.next (put cost s h) i todo

todo_reached : (near : Bool) (cost : ℕ) (s : Reach) (h : Hop) → IsTodo (reached near cost s h) h.next
todo_reached near cost s h = todo_with near h.flush.unsure h.next (put cost s h)

pub todo_cases : (near : Bool) (cost : ℕ) (s : Reach) (h : Hop) (i : ℕ) → IsTodo (reached near cost s h) i
    → IsTodo s i ⊎ (h.next ≡ i)
todo_cases near cost s h i todo = cases_with near h.flush.unsure h.next (put cost s h) i todo

queues_reached : (near : Bool) (cost : ℕ) (s : Reach) (h : Hop) → queues (reached near cost s h) ≡ queues s + 1
queues_reached near cost s h = queues_with near h.flush.unsure h.next (put cost s h)

pub cost_at : (near : Bool) (cost : ℕ) (s : Reach) (h : Hop) (i : ℕ) → h.next < length s.costs
    → ((i ≡ h.next) × (slice_index (reached near cost s h).costs i ≡ cost)) ⊎ ((i ≢ h.next) × (slice_index (reached near cost s h).costs i ≡ slice_index s.costs i))
cost_at near cost s h i within = elim (cases_eq i h.next) [
  | inl same ↦ inl (same, subst (λ (j : ℕ). get_or (set s.costs h.next cost) j 0 ≡ cost) (sym same) (get_or-set_same s.costs h.next cost 0 within))
  | inr other ↦ inr (other, get_or-set_other s.costs h.next i cost 0 other)
]

pub Later-reached : (near : Bool) (cost : ℕ) (s : Reach) (h : Hop) → h.next < length s.costs
    → cost < slice_index s.costs h.next → Later s (reached near cost s h)
Later-reached near cost s h within less = record {
  one_each = length-set s.costs h.next cost;
  by_each = length-set s.by h.next h;
  lanes_each = refl;
  less = λ i. elim (cost_at near cost s h i within) [
    | inl here ↦ omega (arith, here.1, less, ap (λ (j : ℕ). slice_index s.costs j) here.0)
    | inr other ↦ omega (arith, other.1)
  ];
  lanes_less = λ q. omega arith;
  kept = λ i todo. kept_reached near cost s h i todo;
  noted = λ i. elim (cost_at near cost s h i within) [
    | inl here ↦ inr (subst (λ (j : ℕ). IsTodo (reached near cost s h) j) (sym here.0) (todo_reached near cost s h))
    | inr other ↦ inl other.1
  ];
  work = omega (arith, total-set s.costs h.next cost within, less, queues_reached near cost s h);
}

-- a hop that leads on from an item that is reached, or from the first
pub record LeadsOn (w : Wiring) (first : ℕ) (s : Reach) (h : Hop) (cost : ℕ) : Type 0 where
  pub below : h.next < items w
  pub rescuer : HasRescuer w (lane_of w h.next)
  pub hop : IsHop w h
  pub on : lane_of w h.next ≡ lane_of w h.flush.item
  pub from_first : h.item ≡ first → hop_cost h ≤ cost
  pub from_other : h.item ≢ first → slice_index s.costs h.item + hop_cost h ≤ cost

IsReachedBy-later : (w : Wiring) (first : ℕ) (s r : Reach) (i : ℕ) (h : Hop) → Later s r → slice_index r.costs i ≡ slice_index s.costs i → IsReachedBy w first s i h → IsReachedBy w first r i h
IsReachedBy-later w first s r i h later same is = record {
  next = is.next;
  hop = is.hop;
  on = is.on;
  from_first = λ e. omega (arith, is.from_first e, same);
  from_other = λ e. omega (arith, is.from_other e, same, later.less h.item);
}

IsReach-reached : (w : Wiring) (first limit : ℕ) (near : Bool) (cost : ℕ) (s : Reach) (h : Hop) → IsReach w first limit s → LeadsOn w first s h cost → cost < slice_index s.costs h.next → IsReach w first limit (reached near cost s h)
IsReach-reached w first limit near cost s h is leads less = record {
  one_each = later.one_each ∙ is.one_each;
  by_each = later.by_each ∙ is.by_each;
  lanes_each = is.lanes_each;
  capped = λ i. omega (arith, later.less i, is.capped i);
  lanes_capped = is.lanes_capped;
  by_lane = λ i below. omega (arith, later.less i, is.by_lane i below);
  todo = λ i todo. elim (todo_cases near cost s h i todo) [
    | inl before ↦ is.todo i before
    | inr same ↦ (subst (λ (j : ℕ). j < items w) same leads.below, subst (λ (j : ℕ). HasRescuer w (lane_of w j)) same leads.rescuer)
  ];
  reached = reached_by;
}
  where
    within : h.next < length s.costs
    within = omega (arith, leads.below, is.one_each)

    later : Later s (reached near cost s h)
    later = Later-reached near cost s h within less

    reached_by : (i : ℕ) (d : Hop) → i < items w → slice_index (reached near cost s h).costs i < limit → IsReachedBy w first (reached near cost s h) i (slice_index_or (set s.by h.next h) i d)
    reached_by i d below lt = elim (cost_at near cost s h i within) [
      | inl here ↦ (
          let by_it : get_or (set s.by h.next h) i d ≡ h = subst (λ (j : ℕ). get_or (set s.by h.next h) j d ≡ h) (sym here.0) (get_or-set_same s.by h.next h d (omega (arith, leads.below, is.by_each))) in
          subst (IsReachedBy w first (reached near cost s h) i) (sym by_it) (record {
            next = sym here.0;
            hop = leads.hop;
            on = leads.on;
            from_first = λ e. omega (arith, leads.from_first e, here.1);
            from_other = λ e. omega (arith, leads.from_other e, here.1, later.less h.item);
          })
          )
      | inr other ↦ (
          let by_same : get_or (set s.by h.next h) i d ≡ get_or s.by i d = get_or-set_other s.by h.next i h d other.0 in
          subst (IsReachedBy w first (reached near cost s h) i) (sym by_same) (IsReachedBy-later w first s (reached near cost s h) i (get_or s.by i d) later other.1 (is.reached i d below (omega (arith, lt, other.1))))
          )
    ]

-- what holds after a step
pub record Grown (w : Wiring) (first limit : ℕ) (s r : Reach) : Type 0 where
  pub reach : IsReach w first limit r
  pub later : Later s r

Grown-both : (w : Wiring) (first limit : ℕ) (s r t : Reach) → Grown w first limit s r → Grown w first limit r t → Grown w first limit s t
Grown-both w first limit s r t one two = record { reach = two.reach; later = Later-both s r t one.later two.later }

module _ (w : Wiring) (first limit : ℕ) where
  Grown-reach : (near : Bool) (cost : ℕ) (s : Reach) (h : Hop) → IsReach w first limit s → LeadsOn w first s h cost
      → Grown w first limit s (reach near cost s h) × (slice_index (reach near cost s h).costs h.next ≤ cost)
  Grown-reach near cost s h is leads = by (ltb cost (slice_index s.costs h.next)) refl
    where
      by : (b : Bool) → ltb cost (slice_index s.costs h.next) ≡ b → Grown w first limit s (if b then reached near cost s h else s) × (slice_index (if b then reached near cost s h else s).costs h.next ≤ cost)
      by true test =
          let less : cost < slice_index s.costs h.next = ltb-true cost (slice_index s.costs h.next) test in
          let within : h.next < length s.costs = omega (arith, leads.below, is.one_each) in (
            record { reach = IsReach-reached w first limit near cost s h is leads less; later = Later-reached near cost s h within less },
            omega (arith, get_or-set_same s.costs h.next cost 0 within),
          )
      by false test = (record { reach = is; later = Later-same s }, ltb-false cost (slice_index s.costs h.next) test)

  -- ---- all items of a lane

  -- item i, which declares the flush and costs at least so much less, leads on to an item of the target's lane
  record Begins (s : Reach) (i : ℕ) (t : Target) (cost : ℕ) : Type 0 where
    declared : Contains (declared_by w i) t
    rescuer : HasRescuer w (lane_of w i)
    other_rescuer : HasRescuer w (lane_of w t.item)
    from_other : i ≢ first → slice_index s.costs i ≤ cost

  Begins-later : (s r : Reach) (i : ℕ) (t : Target) (cost : ℕ) → Later s r → Begins s i t cost → Begins r i t cost
  Begins-later s r i t cost later is = record {
    declared = is.declared;
    rescuer = is.rescuer;
    other_rescuer = is.other_rescuer;
    from_other = λ e. omega (arith, is.from_other e, later.less i);
  }

  pub lane_step-enough : (i : ℕ) (t : Target) (j : ℕ) → hop_cost (hop_to i t j) ≤ lane_step t
  lane_step-enough i t j = by t.whole (eqb t.item j)
    where
      by : (whole same : Bool)
          → unsure_part t + (3 + length (if whole || same then [] else t.item ∷ [])) ≤ unsure_part t +
          (if whole then 3 else 4)
      by true same = omega arith
      by false true = omega arith
      by false false = omega arith

  LeadsOn-lane : (s : Reach) (i : ℕ) (t : Target) (cost j : ℕ) → Begins s i t cost → j < items w → lane_of w j ≡ lane_of w t.item → LeadsOn w first s (hop_to i t j) (cost + lane_step t)
  LeadsOn-lane s i t cost j is below on = record {
    below = below;
    rescuer = subst (HasRescuer w) (sym on) is.other_rescuer;
    hop = record { declared = is.declared; rescuer = is.rescuer };
    on = on;
    from_first = λ e. omega (arith, lane_step-enough i t j);
    from_other = λ e. omega (arith, lane_step-enough i t j, is.from_other e);
  }

  Grown-all : (near : Bool) (cost : ℕ) (i : ℕ) (t : Target) (js : List ℕ) (s : Reach) → IsReach w first limit s → Begins s i t cost → ((j : ℕ) → Contains js j → (j < items w) × (lane_of w j ≡ lane_of w t.item))
      → Grown w first limit s (reach_all near (cost + lane_step t) i t js s) × ((j : ℕ) → Contains js j → slice_index (reach_all near (cost + lane_step t) i t js s).costs j ≤ cost + lane_step t)
  Grown-all near cost i t [] s is begins on = (record { reach = is; later = Later-same s }, λ j there. absurd (omega (arith, there.1)))
  Grown-all near cost i t (x ∷ js) s is begins on =
      let here = on x (0, omega arith, refl) in
      let one = Grown-reach near (cost + lane_step t) s (hop_to i t x) is (LeadsOn-lane s i t cost x begins here.0 here.1) in
      let r : Reach = reach near (cost + lane_step t) s (hop_to i t x) in
      let rest = Grown-all near cost i t js r one.0.reach (Begins-later s r i t cost one.0.later begins) (λ j there. on j (Contains-later x js j there)) in
      (Grown-both w first limit s r (reach_all near (cost + lane_step t) i t js r) one.0 rest.0, λ j there. each r (reach_all near (cost + lane_step t) i t js r) one.1 rest.0.later rest.1 j there)
    where
      each : (r end : Reach) → slice_index r.costs x ≤ cost + lane_step t → Later r end → ((j : ℕ) → Contains js j → slice_index end.costs j ≤ cost + lane_step t) → (j : ℕ) → Contains (x ∷ js) j → slice_index end.costs j ≤ cost + lane_step t
      each r end here later rest j (zero, lt, at) = subst (λ (k : ℕ). slice_index end.costs k ≤ cost + lane_step t) at (omega (arith, here, later.less x))
      each r end here later rest j (suc k, lt, at) = rest j (k, omega arith, at)

  pub lane_costs-reach : (near : Bool) (cost : ℕ) (s : Reach) (h : Hop)
      → (reach near cost s h).lane_costs ≡ s.lane_costs
  lane_costs-reach near cost s h = by (ltb cost (slice_index s.costs h.next))
    where
      by : (b : Bool) → (if b then reached near cost s h else s).lane_costs ≡ s.lane_costs
      by true = refl
      by false = refl

  pub lane_costs-all : (near : Bool) (cost : ℕ) (i : ℕ) (t : Target) (js : List ℕ) (s : Reach)
      → (reach_all near cost i t js s).lane_costs ≡ s.lane_costs
  lane_costs-all near cost i t [] s = refl
  lane_costs-all near cost i t (j ∷ js) s = lane_costs-all near cost i t js (reach near cost s (hop_to i t j)) ∙ lane_costs-reach near cost s (hop_to i t j)

  module _ (wiring : IsWiring w) (on : List (List ℕ)) (are : AreItemsOn w on) where
    Grown-lane : (near : Bool) (cost : ℕ) (i : ℕ) (t : Target) (s : Reach) → IsReach w first limit s → Begins s i t cost → t.item < items w
        → Grown w first limit s (reach_lane near (cost + lane_step t) i t (lane_of w t.item) (slice_index_or on (lane_of w t.item) []) s)
        × (slice_index (reach_lane near (cost + lane_step t) i t (lane_of w t.item) (slice_index_or on (lane_of w t.item) []) s).lane_costs (lane_of w t.item) ≤ cost + lane_step t)
    Grown-lane near cost i t s is begins below = by (ltb (cost + lane_step t) (slice_index s.lane_costs q)) refl
      where
        q : ℕ
        q = lane_of w t.item

        js : List ℕ
        js = slice_index_or on (lane_of w t.item) []

        by : (b : Bool) → ltb (cost + lane_step t) (slice_index s.lane_costs (lane_of w t.item)) ≡ b
            → Grown w first limit s (if b then with_lane_cost (lane_of w t.item) (cost + lane_step t) (reach_all near (cost + lane_step t) i t (slice_index_or on (lane_of w t.item) []) s) else s)
            × (slice_index (if b then with_lane_cost (lane_of w t.item) (cost + lane_step t) (reach_all near (cost + lane_step t) i t (slice_index_or on (lane_of w t.item) []) s) else s).lane_costs (lane_of w t.item) ≤ cost + lane_step t)
        by false test = (record { reach = is; later = Later-same s }, ltb-false (cost + lane_step t) (slice_index s.lane_costs (lane_of w t.item)) test)
        by true test =
            let less : cost + lane_step t < slice_index s.lane_costs (lane_of w t.item) = ltb-true (cost + lane_step t) (slice_index s.lane_costs (lane_of w t.item)) test in
            let all = Grown-all near cost i t js s is begins (are.within q) in
            put (reach_all near (cost + lane_step t) i t js s) less (ap (λ (l : List ℕ). get_or l q 0) (sym (lane_costs-all near (cost + lane_step t) i t js s))) all.0 all.1
          where
            put : (r : Reach) → cost + lane_step t < slice_index s.lane_costs q → get_or s.lane_costs q 0 ≡ get_or r.lane_costs q 0 → Grown w first limit s r → ((j : ℕ) → Contains js j → slice_index r.costs j ≤ cost + lane_step t)
                → Grown w first limit s (with_lane_cost q (cost + lane_step t) r) × (slice_index (with_lane_cost q (cost + lane_step t) r).lane_costs q ≤ cost + lane_step t)
            put r less same_lanes grown each = (
              record {
                reach = record {
                  one_each = grown.reach.one_each;
                  by_each = grown.reach.by_each;
                  lanes_each = length-set r.lane_costs q (cost + lane_step t) ∙ grown.reach.lanes_each;
                  capped = grown.reach.capped;
                  lanes_capped = λ p. omega (arith, lanes_less p, grown.reach.lanes_capped p);
                  by_lane = by_lane;
                  todo = grown.reach.todo;
                  reached = λ j d lt low. let before = grown.reach.reached j d lt low in record { next = before.next; hop = before.hop; on = before.on; from_first = before.from_first; from_other = before.from_other };
                };
                later = record {
                  one_each = grown.later.one_each;
                  by_each = grown.later.by_each;
                  lanes_each = length-set r.lane_costs q (cost + lane_step t) ∙ grown.later.lanes_each;
                  less = grown.later.less;
                  lanes_less = λ p. omega (arith, lanes_less p, grown.later.lanes_less p);
                  kept = grown.later.kept;
                  noted = grown.later.noted;
                  work = grown.later.work;
                };
              },
              omega (arith, at_q),
            )
              where
                within : q < length r.lane_costs
                within = omega (arith, lane_of-within w wiring t.item below, grown.reach.lanes_each)

                at_q : get_or (set r.lane_costs q (cost + lane_step t)) q 0 ≡ cost + lane_step t
                at_q = get_or-set_same r.lane_costs q (cost + lane_step t) 0 within

                lanes_less : (p : ℕ) → get_or (set r.lane_costs q (cost + lane_step t)) p 0 ≤ get_or r.lane_costs p 0
                lanes_less p = elim (cases_eq p q) [
                  | inl same ↦ subst (λ (k : ℕ). get_or (set r.lane_costs q (cost + lane_step t)) k 0 ≤ get_or r.lane_costs k 0) (sym same) (omega (arith, at_q, less, same_lanes))
                  | inr other ↦ omega (arith, get_or-set_other r.lane_costs q p (cost + lane_step t) 0 other)
                ]

                by_lane : (j : ℕ) → j < items w → slice_index r.costs j ≤ get_or (set r.lane_costs q (cost + lane_step t)) (lane_of w j) 0
                by_lane j lt = elim (cases_eq (lane_of w j) q) [
                  | inl same ↦ subst (λ (k : ℕ). slice_index r.costs j ≤ get_or (set r.lane_costs q (cost + lane_step t)) k 0) (sym same) (omega (arith, at_q, each j (subst (λ (k : ℕ). Contains (slice_index_or on k []) j) same (are.all j lt))))
                  | inr other ↦ omega (arith, get_or-set_other r.lane_costs q (lane_of w j) (cost + lane_step t) 0 other, grown.reach.by_lane j lt)
                ]

    -- ---- all flushes of an item

    module _ (bounds : List ℕ) where
      abbrev most : Reach → Target → ℕ
      most s t = most_of_use w bounds first s (lane_of w t.item)

      -- the flush leads on, or that is of no use
      abbrev LedOn : Reach → ℕ → Target → Type 0
      LedOn r cost t = HasRescuer w (lane_of w t.item)
          → (min (most_of_use w bounds first r (lane_of w t.item)) (slice_index r.costs t.item) ≤ cost + step t)
          × (min (most_of_use w bounds first r (lane_of w t.item)) (slice_index r.lane_costs (lane_of w t.item))
          ≤ cost + lane_step t)

      pub most-later : (r end : Reach) (q : ℕ) → Later r end
          → most_of_use w bounds first end q ≤ most_of_use w bounds first r q
      most-later r end q later = by (eqb q (lane_of w first))
        where
          by : (b : Bool)
              → (if b then slice_index end.costs first else slice_index end.costs first - slice_index bounds q)
              ≤ (if b then slice_index r.costs first else slice_index r.costs first - slice_index bounds q)
          by true = omega (arith, later.less first)
          by false = omega (arith, later.less first)

      LedOn-later : (r end : Reach) (cost : ℕ) (t : Target) → Later r end → LedOn r cost t → LedOn end cost t
      LedOn-later r end cost t later led rescuer =
          let is = led rescuer in
          let less = most-later r end (lane_of w t.item) later in (
            omega (arith, is.0, less, later.less t.item),
            omega (arith, is.1, less, later.lanes_less (lane_of w t.item)),
          )

      pub direct-enough : (t : Target) (i : ℕ) → hop_cost (hop_to i t t.item) ≤ step t
      direct-enough t i = by t.whole (eqb t.item t.item) refl
        where
          by : (whole same : Bool) → eqb t.item t.item ≡ same
              → unsure_part t + (3 + length (if whole || same then [] else t.item ∷ [])) ≤ unsure_part t + 3
          by true same is = omega arith
          by false true is = omega arith
          by false false is = absurd (both_ways (eqb t.item t.item) is (eq-eqb t.item t.item refl))

      -- to the target: what costs no less than the most that is of use is of no use
      Grown-target : (most i cost : ℕ) (s : Reach) (t : Target) → IsReach w first limit s
          → LeadsOn w first s (hop_to i t t.item) (cost + step t)
          → Grown w first limit s (to_target most i cost s t)
          × (min most (slice_index (to_target most i cost s t).costs t.item) ≤ cost + step t)
      Grown-target most i cost s t is leads = by (ltb (cost + step t) most) refl
        where
          by : (b : Bool) → ltb (cost + step t) most ≡ b
              → Grown w first limit s (if b then reach true (cost + step t) s (hop_to i t t.item) else s)
              × (min most (slice_index (if b then reach true (cost + step t) s (hop_to i t t.item) else s).costs t.item)
              ≤ cost + step t)
          by true test =
              let one = Grown-reach true (cost + step t) s (hop_to i t t.item) is leads in
              (one.0, omega (arith, one.1))
          by false test = (
            record { reach = is; later = Later-same s },
            omega (arith, ltb-false (cost + step t) most test),
          )

      -- to the lane of the target
      Grown-to_lane : (most i cost : ℕ) (s : Reach) (t : Target) → IsReach w first limit s → Begins s i t cost
          → t.item < items w → Grown w first limit s (to_lane w on most i cost s t)
          × (min most (slice_index (to_lane w on most i cost s t).lane_costs (lane_of w t.item)) ≤ cost + lane_step t)
      Grown-to_lane most i cost s t is begins below = by (ltb (cost + lane_step t) most) refl
        where
          end : Reach
          end = reach_lane t.whole (cost + lane_step t) i t (lane_of w t.item) (slice_index_or on (lane_of w t.item) [])
              s

          by : (b : Bool) → ltb (cost + lane_step t) most ≡ b → Grown w first limit s (if b then end else s)
              × (min most (slice_index (if b then end else s).lane_costs (lane_of w t.item)) ≤ cost + lane_step t)
          by true test =
              let one = Grown-lane t.whole cost i t s is begins below in
              (one.0, omega (arith, one.1))
          by false test = (
            record { reach = is; later = Later-same s },
            omega (arith, ltb-false (cost + lane_step t) most test),
          )

      Grown-follow : (i cost : ℕ) (s : Reach) (t : Target) → IsReach w first limit s → HasRescuer w (lane_of w i)
          → Contains (declared_by w i) t → (i ≢ first → slice_index s.costs i ≤ cost)
          → Grown w first limit s (follow w on bounds first i cost s t)
          × LedOn (follow w on bounds first i cost s t) cost t
      Grown-follow i cost s t is rescuer declared from_other =
          by (slice_index_or w.bare (lane_of w t.item) false) refl
        where
          below : t.item < items w
          below = declared-target w i t wiring declared

          direct : HasRescuer w (lane_of w t.item) → LeadsOn w first s (hop_to i t t.item) (cost + step t)
          direct other = record {
            below = below;
            rescuer = other;
            hop = record { declared = declared; rescuer = rescuer };
            on = refl;
            from_first = λ e. omega (arith, direct-enough t i);
            from_other = λ e. omega (arith, direct-enough t i, from_other e);
          }

          led : HasRescuer w (lane_of w t.item) → Grown w first limit s (to_both w on (most s t) i cost s t)
              × LedOn (to_both w on (most s t) i cost s t) cost t
          led other =
              let one = Grown-target (most s t) i cost s t is (direct other) in
              let r : Reach = to_target (most s t) i cost s t in
              let begins : Begins r i t cost = record {
                declared = declared;
                rescuer = rescuer;
                other_rescuer = other;
                from_other = λ e. omega (arith, from_other e, one.0.later.less i);
              } in
              let two = Grown-to_lane (most s t) i cost r t one.0.reach begins below in
              let end : Reach = to_both w on (most s t) i cost s t in
              let both = Grown-both w first limit s r end one.0 two.0 in
              let less = most-later s end (lane_of w t.item) both.later in (
                both,
                λ rescued. (omega (arith, one.1, two.0.later.less t.item, less), omega (arith, two.1, less)),
              )

          by : (b : Bool) → slice_index_or w.bare (lane_of w t.item) false ≡ b
              → Grown w first limit s (if b then s else to_both w on (most s t) i cost s t)
              × LedOn (if b then s else to_both w on (most s t) i cost s t) cost t
          by true bare = (
            record { reach = is; later = Later-same s },
            λ rescued. absurd (false≢true (sym rescued ∙ bare)),
          )
          by false rescued = led rescued

      Grown-follows : (i cost : ℕ) (ts : List Target) (s : Reach) → IsReach w first limit s
          → HasRescuer w (lane_of w i) → ((t : Target) → Contains ts t → Contains (declared_by w i) t)
          → (i ≢ first → slice_index s.costs i ≤ cost)
          → Grown w first limit s (fold (follow w on bounds first i cost) s ts)
          × ((t : Target) → Contains ts t → LedOn (fold (follow w on bounds first i cost) s ts) cost t)
      Grown-follows i cost [] s is rescuer declared from_other =
          (record { reach = is; later = Later-same s }, λ t there. absurd (omega (arith, there.1)))
      Grown-follows i cost (x ∷ ts) s is rescuer declared from_other =
          let one = Grown-follow i cost s x is rescuer (declared x (0, omega arith, refl)) from_other in
          let r : Reach = follow w on bounds first i cost s x in
          let rest = Grown-follows i cost ts r one.0.reach rescuer
          (λ t there. declared t (Contains-later x ts t there))
          (λ e. omega (arith, from_other e, one.0.later.less i)) in
          let end : Reach = fold (follow w on bounds first i cost) r ts in (
            Grown-both w first limit s r end one.0 rest.0,
            λ t there. each end (LedOn-later r end cost x rest.0.later one.1) rest.1 t there,
          )
        where
          each : (end : Reach) → LedOn end cost x → ((t : Target) → Contains ts t → LedOn end cost t) → (t : Target)
              → Contains (x ∷ ts) t → LedOn end cost t
          each end here rest t (zero, lt, at) = subst (λ (u : Target). LedOn end cost u) at here
          each end here rest t (suc k, lt, at) = rest t (k, omega arith, at)

      pub Grown-expand : (i cost : ℕ) (s : Reach) → IsReach w first limit s → HasRescuer w (lane_of w i)
          → (i ≢ first → slice_index s.costs i ≤ cost)
          → Grown w first limit s (expand w on bounds first i cost s)
          × IsFollowed w bounds first (expand w on bounds first i cost s) i cost
      Grown-expand i cost s is rescuer from_other =
          Grown-follows i cost (declared_by w i) s is rescuer (λ t there. there) from_other
