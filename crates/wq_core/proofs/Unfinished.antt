-- What is unfinished on a lane, and the tests for it.
use Rattle.std.proofs.Common.{◌≡◌, ℕ, zero, suc, ◌<◌, ◌↔◌, Bool, true, false, List, [], ◌∷◌, get_or, rules, refl, sym, subst, ◌∙◌, ap, arith, inl, inr}
use Rattle.std.specs.Prelude.{IsTrue, ◌||◌, Option, Some, None, IfSome, IfNone, is_some, slice_get, Contains}
use Rattle.std.specs.List.{list_any, Any}
use Rattle.std.proofs.lemmas.Bool.{or_cases, or_left, or_right}
use Rattle.std.proofs.lemmas.List.Folds.{Any-from_list_any, list_any-from_Any}
use borrow.Author.Tests.{tests}
use Rattle.wq_core.specs.declared.entry.Entry.{Entry}
use Rattle.wq_core.specs.declared.entry.Running.{Running}
use Rattle.wq_core.specs.State.{Lane, RunsIn, IsRunOn, IsUnfinishedOn, IsBusyBelow}
use Rattle.wq_core.specs.Held.{LaneHasUnfinishedBelow, IsRising, is_below, runs_below, lane_runs_below}

-- the test says what its name says
pub is_below-true : (item mark : ℕ) (e : Entry) → is_below item mark e ≡ true → (e.item ≡ item) × (e.number < mark)
is_below-true item mark e h = search (rules, tests)

pub true-is_below : (item mark : ℕ) (e : Entry) → e.item ≡ item → e.number < mark → is_below item mark e ≡ true
true-is_below item mark e h k = grind (arith, tests)

-- ---- what runs

runs_below-is : (item mark : ℕ) (o : Option Running) → runs_below item mark o ≡ true → (r : Running) × (o ≡ Some r) × (r.entry.item ≡ item) × (r.entry.number < mark)
runs_below-is item mark None is = absurd cc
runs_below-is item mark (Some r) is = let b = is_below-true item mark r.entry is in (r, refl, b.0, b.1)

is-runs_below : (item mark : ℕ) (o : Option Running) (r : Running) → o ≡ Some r → r.entry.item ≡ item → r.entry.number < mark → runs_below item mark o ≡ true
is-runs_below item mark o r runs is below = ap (runs_below item mark) runs ∙ true-is_below item mark r.entry is below

helper_below : (item mark : ℕ) (os : List (Option Running)) → list_any (runs_below item mark) os ≡ true
    → (h : ℕ) × (r : Running) × (get_or os h None ≡ Some r) × (r.entry.item ≡ item) × (r.entry.number < mark)
helper_below item mark [] is = absurd cc
helper_below item mark (o ∷ os) is = elim (or_cases (runs_below item mark o) (list_any (runs_below item mark) os) is) [
  | inl here ↦ (let found = runs_below-is item mark o here in (0, found.0, found.1, found.2, found.3))
  | inr later ↦ (let found = helper_below item mark os later in (suc found.0, found.1, found.2, found.3, found.4))
]

below_helper : (item mark : ℕ) (os : List (Option Running)) (h : ℕ) (r : Running) → get_or os h None ≡ Some r → r.entry.item ≡ item → r.entry.number < mark → list_any (runs_below item mark) os ≡ true
below_helper item mark [] h r runs is below = absurd cc
below_helper item mark (o ∷ os) zero r runs is below = or_left (runs_below item mark o) (list_any (runs_below item mark) os) (is-runs_below item mark o r runs is below)
below_helper item mark (o ∷ os) (suc h) r runs is below = or_right (runs_below item mark o) (list_any (runs_below item mark) os) (below_helper item mark os h r runs is below)

pub lane_runs_below-some : (item mark : ℕ) (lane : Lane) → lane_runs_below item mark lane ≡ true → (c : ℕ) × (r : Running) × RunsIn lane c r × (r.entry.item ≡ item) × (r.entry.number < mark)
lane_runs_below-some item mark lane is = elim (or_cases (runs_below item mark lane.running) (list_any (runs_below item mark) lane.helping) is) [
  | inl rescuer ↦ (let found = runs_below-is item mark lane.running rescuer in (0, found.0, found.1, found.2, found.3))
  | inr helper ↦ (let found = helper_below item mark lane.helping helper in (suc found.0, found.1, found.2, found.3, found.4))
]

pub some-lane_runs_below : (item mark : ℕ) (lane : Lane) (c : ℕ) (r : Running) → RunsIn lane c r → r.entry.item ≡ item → r.entry.number < mark → lane_runs_below item mark lane ≡ true
some-lane_runs_below item mark lane zero r runs is below =
    or_left (runs_below item mark lane.running) (list_any (runs_below item mark) lane.helping) (is-runs_below item mark lane.running r runs is below)
some-lane_runs_below item mark lane (suc h) r runs is below =
    or_right (runs_below item mark lane.running) (list_any (runs_below item mark) lane.helping) (below_helper item mark lane.helping h r runs is below)

-- ---- entries of an item

below-pending : (lane : Lane) (item mark : ℕ) → Any (λ e. is_below item mark e ≡ true) lane.pending → LaneHasUnfinishedBelow lane item mark
below-pending lane item mark h =
    let b = is_below-true item mark h.1 h.4 in
    record { entry = h.1; unfinished = inl (h.0, h.2, h.3); of_item = b.0; below = b.1 }

below-running : (lane : Lane) (item mark : ℕ) → lane_runs_below item mark lane ≡ true → LaneHasUnfinishedBelow lane item mark
below-running lane item mark h =
    let found = lane_runs_below-some item mark lane h in
    record { entry = found.1.entry; unfinished = inr (found.0, found.1, found.2, refl); of_item = found.3; below = found.4 }

-- some entry passes the test exactly if such an entry is unfinished
pub unfinished_below : (lane : Lane) (item mark : ℕ) → IsTrue (list_any (is_below item mark) lane.pending || lane_runs_below item mark lane) ↔ LaneHasUnfinishedBelow lane item mark
unfinished_below lane item mark = (to, from) where
  to : IsTrue (list_any (is_below item mark) lane.pending || lane_runs_below item mark lane) → LaneHasUnfinishedBelow lane item mark
  to h = elim (or_cases (list_any (is_below item mark) lane.pending) (lane_runs_below item mark lane) h) [
    | inl pending ↦ below-pending lane item mark (Any-from_list_any (is_below item mark) lane.pending pending)
    | inr runs ↦ below-running lane item mark runs
  ]

  from : LaneHasUnfinishedBelow lane item mark → IsTrue (list_any (is_below item mark) lane.pending || lane_runs_below item mark lane)
  from h = by_case h.unfinished where
    passes : is_below item mark h.entry ≡ true
    passes = true-is_below item mark h.entry h.of_item h.below

    by_case : IsUnfinishedOn lane h.entry → IsTrue (list_any (is_below item mark) lane.pending || lane_runs_below item mark lane)
    by_case (inl p) = or_left (list_any (is_below item mark) lane.pending) (lane_runs_below item mark lane) (list_any-from_Any (is_below item mark) lane.pending (p.0, h.entry, p.1, p.2, passes))
    by_case (inr (c, r, runs, same)) =
        let item_of : r.entry.item ≡ item = ap (λ (e : Entry). e.item) same ∙ h.of_item in
        let below : r.entry.number < mark = subst (λ (e : Entry). e.number < mark) (sym same) h.below in
        or_right (list_any (is_below item mark) lane.pending) (lane_runs_below item mark lane) (some-lane_runs_below item mark lane c r runs item_of below)

-- ---- any entry of a lane

-- if the first pending entry isn't below the mark, none is: their numbers rise
none_pending_below : (ps : List Entry) (mark : ℕ) → IsRising ps → ((e : Entry) → slice_get ps 0 ≡ Some e → ¬ (e.number < mark)) → (e : Entry) → Contains ps e → ¬ (e.number < mark)
none_pending_below [] mark rising first e (k, lt, at) below = absurd (omega arith)
none_pending_below (p ∷ ps) mark rising first e (zero, lt, at) below = first p refl (subst (λ (f : Entry). f.number < mark) (sym at) below)
none_pending_below (p ∷ ps) mark rising first e (suc k, lt, at) below =
    let later : p.number < (get_or (p ∷ ps) (suc k) e).number = rising 0 (suc k) e (omega arith) lt in
    let number : p.number < e.number = subst (λ (f : Entry). p.number < f.number) at later in
    first p refl (omega (arith, number, below))

module _ (lane : Lane) (mark : ℕ) (rising : IsRising lane.pending) (first : (e : Entry) → slice_get lane.pending 0 ≡ Some e → ¬ (e.number < mark)) where
  -- then only what runs can be
  pub busy-none : ((e : Entry) → IsRunOn lane e → ¬ (e.number < mark)) → ¬ IsBusyBelow lane mark
  busy-none none h = elim h.unfinished [
    | inl pending ↦ none_pending_below lane.pending mark rising first h.entry pending h.below
    | inr runs ↦ none h.entry runs h.below
  ]

  pub busy-exactly : (found : Option Entry) → IfSome found (λ (e : Entry). IsRunOn lane e × (e.number < mark)) → IfNone found ((e : Entry) → IsRunOn lane e → ¬ (e.number < mark))
      → (b : Bool) → b ≡ is_some found → IsTrue b ↔ IsBusyBelow lane mark
  busy-exactly None some none b is = ((λ h. absurd (let never : true ≡ false = sym h ∙ is in cc)), (λ h. absurd (busy-none none h)))
  busy-exactly (Some e) some none b is = ((λ h. record { entry = e; unfinished = inr some.0; below = some.1 }), (λ h. is))

  pub busy-none_found : (found : Option Entry) → IfNone found ((e : Entry) → IsRunOn lane e → ¬ (e.number < mark)) → IfNone found (¬ IsBusyBelow lane mark)
  busy-none_found None none = busy-none none
  busy-none_found (Some e) none = tt
