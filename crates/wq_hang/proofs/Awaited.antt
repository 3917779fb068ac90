-- What it costs to come to where somebody waits for an item alone: flush by flush.
use Rattle.std.proofs.Common.{◌≡◌, ◌≢◌, ℕ, zero, suc, ◌+◌, ◌<◌, ◌≤◌, ◌⊎◌, inl, inr, Bool, true, false, ltb, List, []}
use Rattle.std.proofs.Common.{◌∷◌, length, get_or, set, refl, sym, ap, subst, ◌∙◌, arith}
use Rattle.std.specs.Prelude.{Contains, slice_index, slice_index_or, if◌then◌else◌, replicate}
use Rattle.std.specs.List.{All}
use Rattle.std.proofs.lemmas.Bool.{cases_eq, cases_lt, ltb-true, ltb-false}
use Rattle.std.proofs.lemmas.List.{get_or-replicate, get_or_past, length-replicate, length-set}
use Rattle.std.proofs.lemmas.List.{get_or-set_same, get_or-set_other, set_past}
use Rattle.std.proofs.lemmas.List.Elements.{All-contains, All-contains_itself, All-nil, All-weaker}
use Rattle.wq_items.specs.declared.target.Target.{Target}
use Rattle.wq_core.specs.Wiring.{Wiring, HasRescuer, items, lane_of, declared_by}
use Rattle.wq_hang.specs.declared.hop.Hop.{Hop}
use Rattle.wq_hang.specs.Walk.{IsHop}
use Rattle.wq_hang.specs.Search.{Reach, hop_to, step}
use Rattle.wq_hang.specs.WaysFor.{PendingFound, WaitsAlone, ArePending, AreLatest, wait_alone}
use Rattle.wq_hang.proofs.Searching.{replicate-most}

module _ (w : Wiring) (limit : ℕ) (s : Reach) where
  -- the hop by which somebody waits for an item alone, at what that costs
  abbrev IsBy : PendingFound → ℕ → Hop → Type 0
  IsBy p i h = WaitsAlone w limit s h.item h.flush × (h.flush.item ≡ i)
      × (slice_index s.costs h.item + step h.flush ≤ slice_index p.costs i)

  -- the least of what it costs by these flushes; no start is queued yet
  pub record AreAwaited (done : ℕ → Target → Type 0) (p : PendingFound) : Type 0 where
    pub one_each : length p.costs ≡ items w
    pub by_each : length p.by ≡ items w
    pub capped : (i : ℕ) → slice_index p.costs i ≤ limit
    pub positive : (i : ℕ) → i < items w → 0 < slice_index p.costs i
    pub least : (i : ℕ) (t : Target) → WaitsAlone w limit s i t → done i t
        → slice_index p.costs t.item ≤ slice_index s.costs i + step t
    pub by : (i : ℕ) (d : Hop) → i < items w → slice_index p.costs i < limit
        → IsBy p i (slice_index_or p.by i d)

  pub AreAwaited-none : (done : ℕ → Target → Type 0) (p : PendingFound) → 0 < limit
      → p.costs ≡ replicate (items w) limit → length p.by ≡ items w
      → ((i : ℕ) (t : Target) → done i t → ⊥) → AreAwaited done p
  AreAwaited-none done p some costs by none = record {
    one_each = ap (λ (l : List ℕ). length l) costs ∙ length-replicate (items w) limit;
    by_each = by;
    capped = λ i. omega (arith, replicate-most (items w) limit i, ap (λ (l : List ℕ). get_or l i 0) costs);
    positive = λ i below. omega (arith, some, at_limit i below);
    least = λ i t waits is. absurd (none i t is);
    by = λ i d below less. absurd (omega (arith, less, at_limit i below));
  }
    where
      at_limit : (i : ℕ) → i < items w → slice_index p.costs i ≡ limit
      at_limit i below = ap (λ (l : List ℕ). get_or l i 0) costs ∙ get_or-replicate (items w) i limit 0 below

  pub AreAwaited-weaker : (done more : ℕ → Target → Type 0) (p : PendingFound)
      → ((i : ℕ) (t : Target) → WaitsAlone w limit s i t → more i t → done i t) → AreAwaited done p
      → AreAwaited more p
  AreAwaited-weaker done more p fewer are = record {
    one_each = are.one_each;
    by_each = are.by_each;
    capped = are.capped;
    positive = are.positive;
    least = λ i t waits is. are.least i t waits (fewer i t waits is);
    by = are.by;
  }

  -- one flush more
  pub AreAwaited-wait : (done more : ℕ → Target → Type 0) (p : PendingFound) (i cost : ℕ) (t : Target)
      → AreAwaited done p → WaitsAlone w limit s i t → t.item < items w → cost ≡ slice_index s.costs i + step t
      → ((j : ℕ) (u : Target) → more j u → done j u ⊎ ((j ≡ i) × (u ≡ t))) → AreAwaited more (wait_alone cost p i t)
  AreAwaited-wait done more p i cost t are waits below same either =
      by (ltb cost (slice_index p.costs t.item)) refl
    where
      by_it : List Hop
      by_it = set p.by t.item (hop_to i t t.item)

      by : (b : Bool) → ltb cost (slice_index p.costs t.item) ≡ b
          → AreAwaited more (if b then record
          { costs = set p.costs t.item cost; by = set p.by t.item (hop_to i t t.item) } else p)
      by false test = record {
        one_each = are.one_each;
        by_each = are.by_each;
        capped = are.capped;
        positive = are.positive;
        least = λ j u u_waits is. elim (either j u is) [
          | inl before ↦ are.least j u u_waits before
          | inr it ↦ omega (
            arith,
            ltb-false cost (slice_index p.costs t.item) test,
            same,
            ap (λ (k : ℕ). slice_index s.costs k) it.0,
            ap step it.1,
            ap (λ (x : Target). slice_index p.costs x.item) it.1,
          )
        ];
        by = are.by;
      }
      by true test = record {
        one_each = length-set p.costs t.item cost ∙ are.one_each;
        by_each = length-set p.by t.item (hop_to i t t.item) ∙ are.by_each;
        capped = λ j. omega (arith, less_each j, are.capped j);
        positive = λ j j_below. elim (at j) [
          | inl here ↦ omega (arith, here.1, same)
          | inr other ↦ omega (arith, other.1, are.positive j j_below)
        ];
        least = λ j u u_waits is. elim (either j u is) [
          | inl before ↦ omega (arith, less_each u.item, are.least j u u_waits before)
          | inr it ↦ omega (
            arith,
            at_t,
            same,
            ap (λ (k : ℕ). slice_index s.costs k) it.0,
            ap step it.1,
            ap (λ (x : Target). get_or (set p.costs t.item cost) x.item 0) it.1,
          )
        ];
        by = λ j d j_below low. elim (at j) [
          | inl here ↦ (
              let is : get_or by_it j d ≡ hop_to i t t.item =
              subst (λ (k : ℕ). get_or by_it k d ≡ hop_to i t t.item) (sym here.0)
              (get_or-set_same p.by t.item (hop_to i t t.item) d (omega (arith, below, are.by_each))) in
              subst (IsBy (record { costs = set p.costs t.item cost; by = by_it }) j) (sym is)
              (waits, sym here.0, omega (arith, here.1, same))
              )
          | inr other ↦ (
              let is : get_or by_it j d ≡ get_or p.by j d =
              get_or-set_other p.by t.item j (hop_to i t t.item) d other.0 in
              let was = are.by j d j_below (omega (arith, low, other.1)) in
              subst (IsBy (record { costs = set p.costs t.item cost; by = by_it }) j) (sym is)
              (was.0, was.1, omega (arith, was.2, other.1))
              )
        ];
      }
        where
          within : t.item < length p.costs
          within = omega (arith, below, are.one_each)

          at_t : get_or (set p.costs t.item cost) t.item 0 ≡ cost
          at_t = get_or-set_same p.costs t.item cost 0 within

          at : (j : ℕ) → ((j ≡ t.item) × (get_or (set p.costs t.item cost) j 0 ≡ cost))
              ⊎ ((j ≢ t.item) × (get_or (set p.costs t.item cost) j 0 ≡ get_or p.costs j 0))
          at j = elim (cases_eq j t.item) [
            | inl it ↦ inl (it, subst (λ (k : ℕ). get_or (set p.costs t.item cost) k 0 ≡ cost) (sym it) at_t)
            | inr other ↦ inr (other, get_or-set_other p.costs t.item j cost 0 other)
          ]

          less : cost < slice_index p.costs t.item
          less = ltb-true cost (slice_index p.costs t.item) test

          less_each : (j : ℕ) → get_or (set p.costs t.item cost) j 0 ≤ get_or p.costs j 0
          less_each j = elim (at j) [
            | inl here ↦ omega (arith, here.1, less, ap (λ (k : ℕ). get_or p.costs k 0) here.0)
            | inr other ↦ omega (arith, other.1)
          ]

  -- ---- the starts are queued

  pub ArePending-none : (p : PendingFound) → AreAwaited (λ i t. i < items w) p → ArePending w [] limit s p
  ArePending-none p are = record {
    one_each = are.one_each;
    by_each = are.by_each;
    begun = All-nil (λ i. slice_index p.costs i ≡ 0);
    capped = are.capped;
    least = λ i t waits. are.least i t waits waits.item;
    no_others = λ i below nothing. absurd (omega (arith, nothing, are.positive i below));
    by = λ i d below some less. are.by i d below less;
  }

  -- one start more
  pub ArePending-start : (begun more : List ℕ) (p : PendingFound) (i : ℕ) → ArePending w begun limit s p → i < items w
      → ((j : ℕ) → Contains more j → Contains begun j ⊎ (i ≡ j))
      → ((j : ℕ) → Contains begun j ⊎ (i ≡ j) → Contains more j)
      → ArePending w more limit s (record { costs = set p.costs i 0; by = p.by })
  ArePending-start begun more p i are below either back = record {
    one_each = length-set p.costs i 0 ∙ are.one_each;
    by_each = are.by_each;
    begun = All-weaker (Contains more) (λ j. get_or (set p.costs i 0) j 0 ≡ 0) (λ j there. elim (either j there) [
      | inl before ↦ omega (
        arith,
        less_each j,
        All-contains (λ (k : ℕ). slice_index p.costs k ≡ 0) begun j are.begun before,
      )
      | inr same ↦ subst (λ (k : ℕ). get_or (set p.costs i 0) k 0 ≡ 0) same at_i
    ]) more (All-contains_itself more);
    capped = λ j. omega (arith, less_each j, are.capped j);
    least = λ j t waits. omega (arith, less_each t.item, are.least j t waits);
    no_others = λ j j_below nothing. elim (at j) [
      | inl here ↦ back j (inr (sym here.0))
      | inr other ↦ back j (inl (are.no_others j j_below (omega (arith, nothing, other.1))))
    ];
    by = λ j d j_below some low. elim (at j) [
      | inl here ↦ absurd (omega (arith, some, here.1))
      | inr other ↦ (
          let was = are.by j d j_below (omega (arith, some, other.1)) (omega (arith, low, other.1)) in
          (was.0, was.1, omega (arith, was.2, other.1))
          )
    ];
  }
    where
      at_i : get_or (set p.costs i 0) i 0 ≡ 0
      at_i = get_or-set_same p.costs i 0 0 (omega (arith, below, are.one_each))

      at : (j : ℕ) → ((j ≡ i) × (get_or (set p.costs i 0) j 0 ≡ 0))
          ⊎ ((j ≢ i) × (get_or (set p.costs i 0) j 0 ≡ get_or p.costs j 0))
      at j = elim (cases_eq j i) [
        | inl it ↦ inl (it, subst (λ (k : ℕ). get_or (set p.costs i 0) k 0 ≡ 0) (sym it) at_i)
        | inr other ↦ inr (other, get_or-set_other p.costs i j 0 0 other)
      ]

      less_each : (j : ℕ) → get_or (set p.costs i 0) j 0 ≤ get_or p.costs j 0
      less_each j = elim (at j) [
        | inl here ↦ omega (arith, here.1)
        | inr other ↦ omega (arith, other.1)
      ]

-- ---- the latest

-- if a number is put in place of one that is no greater, no number falls
pub set_rises : (xs : List ℕ) (p v : ℕ) → slice_index xs p ≤ v → (j : ℕ) → slice_index xs j ≤ get_or (set xs p v) j 0
set_rises xs p v more j = elim (cases_eq j p) [
  | inr other ↦ omega (arith, get_or-set_other xs p j v 0 other)
  | inl same ↦ elim (cases_lt p (length xs)) [
    | inr past ↦ omega (arith, ap (λ (l : List ℕ). get_or l j 0) (set_past xs p v past))
    | inl within ↦ omega (
      arith,
      more,
      get_or-set_same xs p v 0 within,
      ap (λ (k : ℕ). get_or xs k 0) same,
      ap (λ (k : ℕ). get_or (set xs p v) k 0) same,
    )
  ]
]

-- more than it costs to come to each item that waits by these flushes for a target alone
pub record AreLatestOf (w : Wiring) (limit : ℕ) (costs : List ℕ) (done : ℕ → Target → Type 0) (latest : List ℕ)
    : Type 0 where
  pub one_each : length latest ≡ items w
  pub above : (h : Hop) → IsHop w h → h.flush.whole ≡ false → slice_index costs h.item < limit → done h.item h.flush
      → slice_index costs h.item < slice_index latest h.flush.item

module _ (w : Wiring) (limit : ℕ) (costs : List ℕ) where
  pub AreLatestOf-none : (done : ℕ → Target → Type 0) (latest : List ℕ) → length latest ≡ items w
      → ((i : ℕ) (t : Target) → done i t → ⊥) → AreLatestOf w limit costs done latest
  AreLatestOf-none done latest size none = record {
    one_each = size;
    above = λ h hop alone low is. absurd (none h.item h.flush is);
  }

  pub AreLatestOf-weaker : (done more : ℕ → Target → Type 0) (latest : List ℕ)
      → ((h : Hop) → IsHop w h → h.flush.whole ≡ false → slice_index costs h.item < limit → more h.item h.flush
      → done h.item h.flush) → AreLatestOf w limit costs done latest → AreLatestOf w limit costs more latest
  AreLatestOf-weaker done more latest fewer are = record {
    one_each = are.one_each;
    above = λ h hop alone low is. are.above h hop alone low (fewer h hop alone low is);
  }

  -- as long as each number is no lower than before, and that of the target is above what it costs
  pub AreLatestOf-next : (done more : ℕ → Target → Type 0) (latest next : List ℕ) (i : ℕ) (t : Target)
      → AreLatestOf w limit costs done latest → length next ≡ length latest
      → ((j : ℕ) → slice_index latest j ≤ slice_index next j) → slice_index costs i < slice_index next t.item
      → ((j : ℕ) (u : Target) → more j u → done j u ⊎ ((j ≡ i) × (u ≡ t)))
      → AreLatestOf w limit costs more next
  AreLatestOf-next done more latest next i t are size rises above either = record {
    one_each = size ∙ are.one_each;
    above = λ h hop alone low is. elim (either h.item h.flush is) [
      | inl before ↦ omega (arith, are.above h hop alone low before, rises h.flush.item)
      | inr it ↦ omega (
        arith,
        above,
        ap (λ (k : ℕ). slice_index costs k) it.0,
        ap (λ (x : Target). slice_index next x.item) it.1,
      )
    ];
  }

  pub AreLatest-all : (latest : List ℕ) → AreLatestOf w limit costs (λ i t. i < items w) latest
      → ((h : Hop) → IsHop w h → h.item < items w) → AreLatest w limit costs latest
  AreLatest-all latest are below h hop alone low = are.above h hop alone low (below h hop)
