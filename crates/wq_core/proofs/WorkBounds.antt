-- The most work that can be left, by the limits of a declaration.
use Rattle.std.proofs.Common.{◌≡◌, ℕ, ◌≢◌, zero, suc, ◌+◌, ◌*◌, ◌<◌, ◌≤◌, ◌==◌, inl, inr, true, cond, nat_lt, Option, Some, None, List, [], ◌∷◌, length, get_or, take, drop, refl, sym, ap, subst, ◌∙◌, arith}
use Rattle.std.specs.Prelude.{AllPairs, sum_by}
use Rattle.std.specs.List.{All, count_by}
use Rattle.std.proofs.lemmas.List.{take_all, take-append-drop, get_or-drop}
use Rattle.std.proofs.lemmas.List.Elements.{Contains-get_or}
use Rattle.std.proofs.lemmas.List.Kept.{AllPairs-cons}
use Rattle.std.proofs.lemmas.List.Sums.{sum_by-cons, sum_by-append, sum_by-le, sum_by_more, count_by-le-length, get_or-le-sum_by}
use Rattle.wq_items.specs.Table.{flush_count, max_items, max_flushes}
use Rattle.wq_groups.specs.Assignment.{max_lanes}
use Rattle.wq_core.specs.declared.entry.Entry.{Entry}
use Rattle.wq_core.specs.declared.entry.Running.{Running}
use Rattle.wq_core.specs.declared.step.Step.{Step}
use Rattle.wq_core.specs.Wiring.{Wiring, IsWiring, helpers_of, items, declared_by}
use Rattle.wq_core.specs.State.{Lane, State, idle_lane, lane_at, run_by, RunsIn}
use Rattle.wq_core.specs.Rules.{Lawful, effect}
use Rattle.wq_core.specs.Held.{Machine, IsMachine, IsSoundState}
use Rattle.wq_core.specs.Work.{whole_work, running_work, lane_work, work_left}
use Rattle.wq_core.proofs.LaneLemmas.{AllPairs-nil}
use Rattle.wq_core.proofs.Machines.{running-item}
use Rattle.wq_core.proofs.Room.{distinct_places, pending_count, same_passes}
use Rattle.wq_core.proofs.Sound.{IsSoundState-effect}

-- the limits of declarations and of assignments
pub record IsLimited (w : Wiring) : Type 0 where
  pub few_items : items w ≤ max_items
  pub few_flushes : flush_count w.waits ≤ max_flushes
  pub few_lanes : w.lanes ≤ max_lanes

pub IsLimited-machine : (m : Machine) → IsMachine m → IsLimited m.wiring
IsLimited-machine m machine = record { few_items = machine.few_items; few_flushes = machine.few_flushes; few_lanes = machine.few_lanes }

-- an item declares at most all flushes
pub whole_work-few : (w : Wiring) (i : ℕ) → IsLimited w → i < items w → whole_work w i ≤ 32770
whole_work-few w i limits there =
    let some : length (declared_by w i) ≤ sum_by length w.waits = get_or-le-sum_by length w.waits i [] there in
    omega (arith, some, limits.few_flushes)

-- ---- what runs

-- the items of what runs
abbrev run_items : List (Option Running) → List ℕ
run_items [] = []
run_items (None ∷ os) = run_items os
run_items (Some r ∷ os) = r.entry.item ∷ run_items os

run_item-at : (os : List (Option Running)) (k d : ℕ) → k < length (run_items os) → (c : ℕ) × (r : Running) × (get_or os c None ≡ Some r) × (r.entry.item ≡ get_or (run_items os) k d)
run_item-at [] k d lt = absurd (omega arith)
run_item-at (None ∷ os) k d lt = let later = run_item-at os k d lt in (suc later.0, later.1, later.2, later.3)
run_item-at (Some r ∷ os) zero d lt = (0, r, refl, refl)
run_item-at (Some r ∷ os) (suc k) d lt = let later = run_item-at os k d (omega arith) in (suc later.0, later.1, later.2, later.3)

-- if no item runs twice, they differ
run_items-differ : (os : List (Option Running)) → ((c e : ℕ) (r x : Running) → get_or os c None ≡ Some r → get_or os e None ≡ Some x → r.entry.item ≡ x.entry.item → c ≡ e) → AllPairs (λ i j. i ≢ j) (run_items os)
run_items-differ [] one = AllPairs-nil (λ i j. i ≢ j)
run_items-differ (None ∷ os) one = run_items-differ os (λ c e r x runs other same. let next : suc c ≡ suc e = one (suc c) (suc e) r x runs other same in omega (arith, next))
run_items-differ (Some r ∷ os) one =
    AllPairs-cons (λ i j. i ≢ j) r.entry.item (run_items os) (λ k d lt same.
    let there = run_item-at os k d lt in
    let never : 0 ≡ suc there.0 = one 0 (suc there.0) r there.1 refl there.2 (same ∙ sym there.3) in
    absurd (omega (arith, never))
    )
    (run_items-differ os (λ c e s x runs other same. let next : suc c ≡ suc e = one (suc c) (suc e) s x runs other same in omega (arith, next)))

-- each of them is few work
running_works-few : (w : Wiring) (os : List (Option Running)) → ((c : ℕ) (r : Running) → get_or os c None ≡ Some r → whole_work w r.entry.item ≤ 32770) → sum_by (running_work w) os ≤ length (run_items os) * 32770
running_works-few w [] few = omega arith
running_works-few w (None ∷ os) few =
    omega (arith, sum_by-cons (running_work w) None os, running_works-few w os (λ c r is. few (suc c) r is))
running_works-few w (Some r ∷ os) few =
    let one : whole_work w r.entry.item ≤ 32770 = few 0 r refl in
    omega (arith, one, sum_by-cons (running_work w) (Some r) os, running_works-few w os (λ c x is. few (suc c) x is))

module _ (w : Wiring) (s : State) (sound : IsSoundState w s) where
  -- each pending entry is of an item that exists
  pub pending_items-exist : (q : ℕ) → All (λ (e : Entry). e.item < items w) (lane_at s q).pending
  pending_items-exist q k d lt =
      let ps : List Entry = (lane_at s q).pending in
      (sound.own_lane q (get_or ps k d) (inl (Contains-get_or ps k d lt))).0

  module _ (wiring : IsWiring w) (limits : IsLimited w) where
    -- a lane has at most one pending entry of each of its items
    pending_work-on : (q : ℕ) → sum_by (λ (e : Entry). whole_work w e.item) (lane_at s q).pending ≤ count_by (λ l. l == q) w.lane_of_item * 32770
    pending_work-on q =
        let ps : List Entry = (lane_at s q).pending in
        let each : All (λ (e : Entry). whole_work w e.item ≤ 32770) ps =
        λ k d lt. whole_work-few w (get_or ps k d).item limits (pending_items-exist q k d lt) in
        let sum : sum_by (λ (e : Entry). whole_work w e.item) ps ≤ length ps * 32770 = sum_by-le (λ (e : Entry). whole_work w e.item) 32770 ps each in
        let count : length ps ≤ count_by (λ l. l == q) w.lane_of_item = pending_count w s q wiring sound in
        omega (arith, sum, count)

    pending_work-few : (q : ℕ) → sum_by (λ (e : Entry). whole_work w e.item) (lane_at s q).pending ≤ 134225920
    pending_work-few q =
        let all : count_by (λ l. l == q) w.lane_of_item ≤ length w.lane_of_item = count_by-le-length (λ l. l == q) w.lane_of_item in
        omega (arith, pending_work-on q, all, wiring.one_lane_each, limits.few_items)

    -- what runs on a lane, the rescuer's entry first
    abbrev runs_on : ℕ → List (Option Running)
    runs_on q = (lane_at s q).running ∷ (lane_at s q).helping

    runs_on-context : (q c : ℕ) (r : Running) → get_or (runs_on q) c None ≡ Some r → RunsIn (lane_at s q) c r
    runs_on-context q zero r is = is
    runs_on-context q (suc h) r is = is

    -- an item runs in one context at most, so no more entries run than the lane has items
    running_count : (q : ℕ) → length (run_items (runs_on q)) ≤ count_by (λ l. l == q) w.lane_of_item
    running_count q = distinct_places (λ l. l == q) w.lane_of_item (run_items (runs_on q)) each differ
      where
        each : (k d : ℕ) → k < length (run_items (runs_on q)) → (get_or (run_items (runs_on q)) k d < length w.lane_of_item) × (((get_or w.lane_of_item (get_or (run_items (runs_on q)) k d) 0) == q) ≡ true)
        each k d lt =
            let found = run_item-at (runs_on q) k d lt in
            let own = sound.own_lane q found.1.entry (inr (found.0, found.1, runs_on-context q found.0 found.1 found.2, refl)) in
            let below : found.1.entry.item < length w.lane_of_item = omega (arith, own.0, wiring.one_lane_each) in
            subst (λ i. (i < length w.lane_of_item) × (((get_or w.lane_of_item i 0) == q) ≡ true)) found.3 (below, same_passes _ q own.1)

        differ : (i j d : ℕ) → i < j → j < length (run_items (runs_on q)) → get_or (run_items (runs_on q)) i d ≢ get_or (run_items (runs_on q)) j d
        differ = run_items-differ (runs_on q) (λ c e r x runs other same. sound.one_context q c e r x (runs_on-context q c r runs) (runs_on-context q e x other) same)

    pub running_work-on : (q : ℕ) → running_work w (lane_at s q).running + sum_by (running_work w) (lane_at s q).helping ≤ count_by (λ l. l == q) w.lane_of_item * 32770
    running_work-on q =
        let all = running_works-few w (runs_on q) (λ c r is. whole_work-few w r.entry.item limits (running-item w s q c r sound (runs_on-context q c r is))) in
        omega (arith, all, sum_by-cons (running_work w) (lane_at s q).running (lane_at s q).helping, running_count q)

    lane_work-on : (q : ℕ) → lane_work w (lane_at s q) ≤ (2 * count_by (λ l. l == q) w.lane_of_item) * 32770
    lane_work-on q = omega (arith, pending_work-on q, running_work-on q)

-- ---- lane by lane

-- one more lane
pub work_left-more : (w : Wiring) (s : State) (q lane so_far more : ℕ) → q < length s.lanes → lane ≡ q
    → so_far ≡ sum_by (lane_work w) (take q s.lanes) → more ≡ lane_work w (lane_at s lane)
    → so_far + more ≡ sum_by (lane_work w) (take (q + 1) s.lanes)
work_left-more w s q lane so_far more there same sum work =
    let at : more ≡ lane_work w (lane_at s q) = work ∙ ap (λ (p : ℕ). lane_work w (lane_at s p)) same in
    let step = sum_by_more (lane_work w) s.lanes q idle_lane there in
    omega (arith, at, step, sum)

-- all of them
pub work_left-all : (w : Wiring) (s : State) (q so_far : ℕ) → length s.lanes ≤ q → so_far ≡ sum_by (lane_work w) (take q s.lanes)
    → so_far ≡ work_left w s
work_left-all w s q so_far past sum = sum ∙ ap (sum_by (lane_work w)) (take_all q s.lanes past)

-- ---- at most this much

-- the items on the lanes below n, and on lane n
count_by-below : (n : ℕ) (ls : List ℕ) → count_by (λ l. nat_lt l n) ls + count_by (λ l. l == n) ls ≡ count_by (λ l. nat_lt l (n + 1)) ls
count_by-below n [] = refl
count_by-below n (l ∷ ls) =
    let one : cond (nat_lt l n) 1 0 + cond (l == n) 1 0 ≡ cond (nat_lt l (n + 1)) 1 0 = grind arith in
    omega (arith, one, count_by-below n ls, sum_by-cons (λ k. cond (nat_lt k n) 1 0) l ls, sum_by-cons (λ k. cond (k == n) 1 0) l ls, sum_by-cons (λ k. cond (nat_lt k (n + 1)) 1 0) l ls)

module _ (w : Wiring) (s : State) (sound : IsSoundState w s) (wiring : IsWiring w) (limits : IsLimited w) where
  -- on the lanes below n: what is queued and what runs of each of their items
  work_below-few : (n : ℕ) → n ≤ length s.lanes → sum_by (lane_work w) (take n s.lanes) ≤ (2 * count_by (λ l. nat_lt l n) w.lane_of_item) * 32770
  work_below-few zero le = omega arith
  work_below-few (suc n) le =
      let e : suc n ≡ n + 1 = omega arith in
      let more = sum_by_more (lane_work w) s.lanes n idle_lane (omega arith) in
      let below = work_below-few n (omega arith) in
      rw e (omega (arith, more, below, lane_work-on w s sound wiring limits n, count_by-below n w.lane_of_item))

  pub work_left-few : work_left w s ≤ 268451840
  work_left-few =
      let all : count_by (λ l. nat_lt l (length s.lanes)) w.lane_of_item ≤ length w.lane_of_item = count_by-le-length (λ l. nat_lt l (length s.lanes)) w.lane_of_item in
      let below = work_below-few (length s.lanes) (omega arith) in
      let sum = ap (sum_by (lane_work w)) (take_all (length s.lanes) s.lanes (omega arith)) in
      omega (arith, all, below, sum, wiring.one_lane_each, limits.few_items)

-- for a machine, and after one of its steps
pub pending_work-machine : (m : Machine) (q : ℕ) → IsMachine m → sum_by (λ (e : Entry). whole_work m.wiring e.item) (lane_at m.state q).pending ≤ 134225920
pending_work-machine m q machine = pending_work-few m.wiring m.state machine.state machine.wiring (IsLimited-machine m machine) q

pub work_left-machine : (m : Machine) → IsMachine m → work_left m.wiring m.state ≤ 268451840
work_left-machine m machine = work_left-few m.wiring m.state machine.state machine.wiring (IsLimited-machine m machine)

pub work_left-after : (m : Machine) (step : Step) → IsMachine m → Lawful m.wiring m.state step → work_left m.wiring (effect m.wiring m.state step) ≤ 268451840
work_left-after m step machine lawful =
    work_left-few m.wiring (effect m.wiring m.state step) (IsSoundState-effect m.wiring m.state step machine.state lawful) machine.wiring (IsLimited-machine m machine)

-- ---- helper by helper

-- one more helper
pub helping_work-more : (w : Wiring) (lane : Lane) (k so_far more : ℕ) → k < length lane.helping → so_far ≡ sum_by (running_work w) (take k lane.helping) → more ≡ running_work w (run_by lane (k + 1))
    → so_far + more ≡ sum_by (running_work w) (take (k + 1) lane.helping)
helping_work-more w lane k so_far more within sum work =
    let e : k + 1 ≡ suc k = omega arith in
    let next : more ≡ running_work w (get_or lane.helping k None) = work ∙ ap (λ c. running_work w (run_by lane c)) e in
    omega (arith, sum_by_more (running_work w) lane.helping k None within, sum, next)

nothing_left : (w : Wiring) (os : List (Option Running)) → ((h : ℕ) (r : Running) → ¬ (get_or os h None ≡ Some r)) → sum_by (running_work w) os ≡ 0
nothing_left w [] none = refl
nothing_left w (None ∷ os) none = omega (arith, sum_by-cons (running_work w) None os, nothing_left w os (λ h r. none (suc h) r))
nothing_left w (Some r ∷ os) none = absurd (none 0 r refl)

-- all of those that the lane has
pub helping_work-all : (w : Wiring) (s : State) (q n so_far : ℕ) → IsSoundState w s → helpers_of w q ≤ n → so_far ≡ sum_by (running_work w) (take n (lane_at s q).helping)
    → so_far ≡ sum_by (running_work w) (lane_at s q).helping
helping_work-all w s q n so_far sound all sum =
    let os : List (Option Running) = (lane_at s q).helping in
    let rest : sum_by (running_work w) (drop n os) ≡ 0 =
    nothing_left w (drop n os) (λ h r is.
    let exists = sound.helpers q (suc (n + h)) r (sym (get_or-drop n os h None) ∙ is) in
    omega (arith, exists, all)
    ) in
    omega (arith, sum, rest, sum_by-append (running_work w) (take n os) (drop n os), ap (sum_by (running_work w)) (take-append-drop n os))
