-- Plans of readings.
use Rattle.std.proofs.Common.{◌≡◌, ℕ, zero, suc, ◌+◌, ◌<◌, ◌≤◌, inl, inr, Bool, true, false, cond, List, [], ◌∷◌}
use Rattle.std.proofs.Common.{length, map, slice_index, refl, sym, ap, subst, ◌∙◌, arith}
use Rattle.std.specs.Prelude.{not, ◌||◌}
use Rattle.std.specs.List.{Any}
use Rattle.std.proofs.lemmas.Bool.{cases_lt}
use Rattle.std.proofs.lemmas.List.{nil_from_length}
use Rattle.wq_items.specs.Chain.{BeginsChain}
use Rattle.wq_items.specs.declared.target.Target.{Target}
use Rattle.wq_items.specs.Readings.{compact, is_among, is_kept, kept_of, renumbered}
use Rattle.wq_items.specs.Table.{ItemWaits, places, targets_of}
use Rattle.wq_items.proofs.Chains.{IsRank-greatest}
use Rattle.wq_groups.specs.Declaration.{Declaration, GroupWaits, IsDeclaration, reading_declared}
use Rattle.wq_groups.specs.Assignment.{Assignment, group_lane}
use Rattle.wq_groups.proofs.Declarations.{IsDeclaration-reading}
use Rattle.wq_plan.specs.Plan.{IsPlan, lanes_of}
use Rattle.wq_plan.proofs.Existence.{IsPlan-or_circle}
use Rattle.wq_plan.proofs.Lanes.{lanes_of-above, lanes_of-some}
use Rattle.wq_plan.proofs.Plans.{IsPlan-no_circle}
use Rattle.wq_plan.proofs.Relations.{BeginsChain-implied, HasCircle-implied}
use Rattle.wq_readings.proofs.Picking.{alike, later, left_out}

-- ---- the flushes of an item in a reading

-- a kept flush of the item
abbrev pub KeptOf : List ℕ → ℕ → Target → Type 0
KeptOf kept j t = (t.item ≡ j) × (is_kept kept t ≡ true)

module _ (kept others : List ℕ) (j : ℕ) where
  abbrev moved : List Target → List Target
  moved ts = map (renumbered others) (kept_of kept ts)

  Any-out : (ts : List Target) → Any (λ (t : Target). t.item ≡ j) (moved ts) → Any (KeptOf kept j) ts
  Any-out [] (k, y, within, is, h) = absurd (omega arith)
  Any-out (t ∷ ts) h = by (is_kept kept t) refl (λ g. Any-out ts g) h
    where
      by : (b : Bool) → is_kept kept t ≡ b → (Any (λ (u : Target). u.item ≡ j) (moved ts) → Any (KeptOf kept j) ts)
          → Any (λ (u : Target). u.item ≡ j) (map (renumbered others) (cond b (t ∷ kept_of kept ts) (kept_of kept ts)))
          → Any (KeptOf kept j) (t ∷ ts)
      by true is rest h = alike (λ (u : Target). u.item ≡ j) (KeptOf kept j) (renumbered others t) t (moved ts) ts
          (λ same. (same, is)) rest h
      by false is rest h = later (KeptOf kept j) t ts (rest h)

  Any-in : (ts : List Target) → Any (KeptOf kept j) ts → Any (λ (t : Target). t.item ≡ j) (moved ts)
  Any-in [] (k, y, within, is, h) = absurd (omega arith)
  Any-in (t ∷ ts) h = by (is_kept kept t) refl (λ g. Any-in ts g) h
    where
      by : (b : Bool) → is_kept kept t ≡ b → (Any (KeptOf kept j) ts → Any (λ (u : Target). u.item ≡ j) (moved ts))
          → Any (KeptOf kept j) (t ∷ ts)
          → Any (λ (u : Target). u.item ≡ j) (map (renumbered others) (cond b (t ∷ kept_of kept ts) (kept_of kept ts)))
      by true is rest h = alike (KeptOf kept j) (λ (u : Target). u.item ≡ j) t (renumbered others t) ts (moved ts)
          (λ q. q.0) rest h
      by false is rest h = rest (left_out (KeptOf kept j) t ts (λ q. absurd (let yes = q.1 in cc)) h)

targets_of-moved : (change : Target → Target) (kept : List ℕ) (waits : List (List Target)) (i : ℕ)
    → targets_of (map (map change) (map (kept_of kept) waits)) i ≡ map change (kept_of kept (targets_of waits i))
targets_of-moved change kept [] i = refl
targets_of-moved change kept (ts ∷ waits) zero = refl
targets_of-moved change kept (ts ∷ waits) (suc i) = targets_of-moved change kept waits i

module _ (kept : List ℕ) (waits : List (List Target)) (i j : ℕ) where
  abbrev others : List ℕ
  others = places (map (kept_of kept) waits)

  -- in the reading the item waits by a flush that is kept
  pub ItemWaits-out : ItemWaits (compact kept waits) i j → Any (KeptOf kept j) (targets_of waits i)
  ItemWaits-out h = Any-out kept others j (targets_of waits i)
      (subst (Any (λ (t : Target). t.item ≡ j)) (targets_of-moved (renumbered others) kept waits i) h)

  pub ItemWaits-in : Any (KeptOf kept j) (targets_of waits i) → ItemWaits (compact kept waits) i j
  ItemWaits-in h = subst (Any (λ (t : Target). t.item ≡ j)) (sym (targets_of-moved (renumbered others) kept waits i))
      (Any-in kept others j (targets_of waits i) h)

Any-implied : {X : Type 0} (P Q : X → Type 0) (xs : List X) → ((x : X) → P x → Q x) → Any P xs → Any Q xs
Any-implied P Q xs implies (k, y, within, is, h) = (k, y, within, is, implies y h)

kept-wider : (few many : List ℕ) → ((p : ℕ) → is_among few p ≡ true → is_among many p ≡ true) → (t : Target)
    → is_kept few t ≡ true → is_kept many t ≡ true
kept-wider few many wider t h = by (not t.unsure) h
  where
    by : (sure : Bool) → (sure || is_among few t.place) ≡ true → (sure || is_among many t.place) ≡ true
    by true h = refl
    by false h = wider t.place h

module _ (d : Declaration) where
  -- groups that wait in a reading wait in one that keeps more, and they wait if all flushes are made
  pub GroupWaits-more : (few many : List ℕ) → ((p : ℕ) → is_among few p ≡ true → is_among many p ≡ true)
      → (g h : ℕ) → GroupWaits (reading_declared d few) g h → GroupWaits (reading_declared d many) g h
  GroupWaits-more few many wider g h waits = record {
    item = waits.item;
    target = waits.target;
    declares = ItemWaits-in many d.waits waits.item waits.target
        (Any-implied (KeptOf few waits.target) (KeptOf many waits.target) (targets_of d.waits waits.item)
        (λ t k. (k.0, kept-wider few many wider t k.1)) (ItemWaits-out few d.waits waits.item waits.target
        waits.declares));
    of_item = waits.of_item;
    of_target = waits.of_target;
  }

  pub GroupWaits-all : (kept : List ℕ) (g h : ℕ) → GroupWaits (reading_declared d kept) g h → GroupWaits d g h
  GroupWaits-all kept g h waits = record {
    item = waits.item;
    target = waits.target;
    declares = Any-implied (KeptOf kept waits.target) (λ (t : Target). t.item ≡ waits.target)
        (targets_of d.waits waits.item) (λ t k. k.0)
        (ItemWaits-out kept d.waits waits.item waits.target waits.declares);
    of_item = waits.of_item;
    of_target = waits.of_target;
  }

-- ---- plans

-- a group on the last lane of a plan, if there is a group
pub last_group : (d : Declaration) (a : Assignment) → IsPlan d a → 0 < a.lanes → (g : ℕ) × (g < d.groups)
    × (group_lane a g + 1 ≡ a.lanes)
last_group d a plan some =
    elim (cases_lt 0 (length a.lane_of_group)) [
      | inl more ↦ (
          let last = lanes_of-some a.lane_of_group more in
          (last.0, omega (arith, last.1, plan.one_each), last.2 ∙ sym plan.count)
          )
      | inr none ↦ (
          let empty : a.lane_of_group ≡ [] = nil_from_length a.lane_of_group (omega (arith, none)) in
          let zero_lanes : lanes_of a.lane_of_group ≡ 0 = ap lanes_of empty in
          absurd (omega (arith, plan.count))
          )
    ]

-- a chain of groups has no more groups than there are lanes, from its first one's lane down
pub lane-chain : (d : Declaration) (a : Assignment) (g n : ℕ) → IsPlan d a → g < d.groups
    → BeginsChain (GroupWaits d) g n → n ≤ group_lane a g + 1
lane-chain d a g n plan group begins = IsRank-greatest (GroupWaits d) g (group_lane a g) n (plan.ranks g group) begins

pub lane-below : (d : Declaration) (a : Assignment) (g : ℕ) → IsPlan d a → g < d.groups → group_lane a g < a.lanes
lane-below d a g plan group =
    let below : slice_index a.lane_of_group g < lanes_of a.lane_of_group =
    lanes_of-above a.lane_of_group g 0 (omega (arith, plan.one_each)) in
    omega (arith, plan.count)

-- with more waits among as many groups no fewer lanes are needed
lanes-implied : (d e : Declaration) (a b : Assignment) → d.groups ≡ e.groups
    → ((g h : ℕ) → GroupWaits d g h → GroupWaits e g h) → IsPlan d a → IsPlan e b → a.lanes ≤ b.lanes
lanes-implied d e a b same implies one other =
    elim (cases_lt 0 a.lanes) [
      | inl some ↦ (
          let last = last_group d a one some in
          let group : last.0 < e.groups = omega (arith, last.1) in
          let chain : BeginsChain (GroupWaits e) last.0 (group_lane a last.0 + 1) =
          BeginsChain-implied (GroupWaits d) (GroupWaits e) implies last.0 (group_lane a last.0 + 1)
          (one.ranks last.0 last.1).0 in
          omega (
            arith,
            last.2,
            lane-chain e b last.0 (group_lane a last.0 + 1) other group chain,
            lane-below e b last.0 other group,
          )
          )
      | inr none ↦ omega (arith, none)
    ]

pub lanes-more : (d : Declaration) (few many : List ℕ) (a b : Assignment)
    → ((p : ℕ) → is_among few p ≡ true → is_among many p ≡ true) → IsPlan (reading_declared d few) a
    → IsPlan (reading_declared d many) b → a.lanes ≤ b.lanes
lanes-more d few many a b wider one other = lanes-implied (reading_declared d few) (reading_declared d many) a b refl
    (GroupWaits-more d few many wider) one other

pub lanes-all : (d : Declaration) (kept : List ℕ) (a b : Assignment) → IsPlan d a
    → IsPlan (reading_declared d kept) b → b.lanes ≤ a.lanes
lanes-all d kept a b one other = lanes-implied (reading_declared d kept) d b a refl (GroupWaits-all d kept) other one

pub plan-reading : (d : Declaration) (a : Assignment) (kept : List ℕ) → IsDeclaration d → IsPlan d a
    → (b : Assignment) × IsPlan (reading_declared d kept) b × (b.lanes ≤ a.lanes)
plan-reading d a kept is plan =
    elim (IsPlan-or_circle (reading_declared d kept) (IsDeclaration-reading d kept is)) [
      | inl has ↦ (has.0, has.1, lanes-all d kept a has.0 plan has.1)
      | inr circle ↦ absurd (IsPlan-no_circle d a plan
          (HasCircle-implied (GroupWaits (reading_declared d kept)) (GroupWaits d) (GroupWaits-all d kept) d.groups
          circle))
    ]
