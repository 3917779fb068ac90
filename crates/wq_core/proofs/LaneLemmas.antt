-- Lanes of a state, after one of them has changed; entries of a lane, after its pending list has changed.
use Rattle.std.proofs.Common.{◌≡◌, ◌≢◌, ℕ, zero, suc, ◌<◌, ◌≤◌, ◌⊎◌, inl, inr, Bool, List, [], ◌∷◌, length, get_or, set, replicate, refl, ap, subst, None, Some, sym, ◌∙◌, arith}
use Rattle.std.specs.Prelude.{AllPairs, Contains}
use Rattle.std.specs.List.{filter}
use Rattle.std.proofs.lemmas.Bool.{cases_lt}
use Rattle.std.proofs.lemmas.List.{get_or-set_same, get_or-set_other, get_or_past, get_or-replicate, length-replicate}
use Rattle.std.proofs.lemmas.List.Elements.{All-contains, All-contains_itself, All-filter}
use Rattle.wq_items.specs.declared.target.Target.{Target}
use Rattle.wq_items.specs.Table.{ItemWaits, ItemWaitsBy}
use Rattle.wq_core.specs.declared.entry.Entry.{Entry}
use Rattle.wq_core.specs.declared.entry.Running.{Running}
use Rattle.wq_core.specs.Wiring.{Wiring}
use Rattle.wq_core.specs.State.{Lane, State, idle_lane, lane_at, with_lane, empty_state, run_by, IsUnfinishedOn, RunsIn}
use Rattle.wq_core.specs.Rules.{MayStart}
use Rattle.wq_core.proofs.Contexts.{idle_runs}

-- ---- lanes of a state

pub lane_at-with_lane_same : (s : State) (q : ℕ) (lane : Lane) → q < length s.lanes
    → lane_at (with_lane s q lane) q ≡ lane
lane_at-with_lane_same s q lane within = get_or-set_same s.lanes q lane idle_lane within

pub lane_at-with_lane_other : (s : State) (q : ℕ) (lane : Lane) (p : ℕ) → p ≢ q
    → lane_at (with_lane s q lane) p ≡ lane_at s p
lane_at-with_lane_other s q lane p other = get_or-set_other s.lanes q p lane idle_lane other

-- each lane is as it was, or the one that was put there
cases_set : (lanes : List Lane) (q : ℕ) (lane : Lane) (p : ℕ)
    → (get_or (set lanes q lane) p idle_lane ≡ get_or lanes p idle_lane)
    ⊎ ((p ≡ q) × (get_or (set lanes q lane) p idle_lane ≡ lane))
cases_set [] q lane p = inl refl
cases_set (l ∷ ls) zero lane zero = inr (refl, refl)
cases_set (l ∷ ls) zero lane (suc p) = inl refl
cases_set (l ∷ ls) (suc q) lane zero = inl refl
cases_set (l ∷ ls) (suc q) lane (suc p) = elim (cases_set ls q lane p) [
  | inl same ↦ inl same
  | inr there ↦ inr (ap suc there.0, there.1)
]

pub cases_with_lane : (s : State) (q : ℕ) (lane : Lane) (p : ℕ)
    → (lane_at (with_lane s q lane) p ≡ lane_at s p) ⊎ ((p ≡ q) × (lane_at (with_lane s q lane) p ≡ lane))
cases_with_lane s q lane p = cases_set s.lanes q lane p

-- a lane that doesn't exist stays idle
pub lane_at_past : (s : State) (q : ℕ) → length s.lanes ≤ q → lane_at s q ≡ idle_lane
lane_at_past s q past = get_or_past s.lanes q idle_lane past

idle_lanes : (n q : ℕ) → get_or (replicate n idle_lane) q idle_lane ≡ idle_lane
idle_lanes n q = elim (cases_lt q n) [
  | inl within ↦ get_or-replicate n q idle_lane idle_lane within
  | inr past ↦ get_or_past (replicate n idle_lane) q idle_lane (rw (length-replicate n idle_lane) past)
]

pub lane_at-empty_state : (w : Wiring) (q : ℕ) → lane_at (empty_state w) q ≡ idle_lane
lane_at-empty_state w q = idle_lanes w.lanes q

pub Contains-nil : {X : Type 0} (x : X) → ¬ Contains [] x
Contains-nil x (k, lt, at) = omega arith

pub idle_lane-unfinished : (e : Entry) → ¬ IsUnfinishedOn idle_lane e
idle_lane-unfinished e (inl pending) = Contains-nil e pending
idle_lane-unfinished e (inr (c, r, runs, same)) = idle_runs c r runs

-- a lane on which an entry is unfinished exists
pub lane_within : (s : State) (q : ℕ) (e : Entry) → IsUnfinishedOn (lane_at s q) e → q < length s.lanes
lane_within s q e h = elim (cases_lt q (length s.lanes)) [
  | inl within ↦ within
  | inr past ↦ absurd (idle_lane-unfinished e (subst (λ (lane : Lane). IsUnfinishedOn lane e) (lane_at_past s q past) h))
]

-- a context runs at most one execution, and none if it is idle
pub same_running : (lane : Lane) (c : ℕ) (r x : Running) → RunsIn lane c r → RunsIn lane c x → r ≡ x
same_running lane c r x one other = let both : Some r ≡ Some x = sym one ∙ other in cc

pub nothing_runs : (lane : Lane) (c : ℕ) → run_by lane c ≡ None → (r : Running) → ¬ RunsIn lane c r
nothing_runs lane c idle r runs = let never : None ≡ Some r = sym idle ∙ runs in cc

pub runs_within : (s : State) (q c : ℕ) (r : Running) → RunsIn (lane_at s q) c r → q < length s.lanes
runs_within s q c r runs = lane_within s q r.entry (inr (c, r, runs, refl))

pub starts_within : (s : State) (q c i : ℕ) → MayStart (lane_at s q) c i → q < length s.lanes
starts_within s q c i may = lane_within s q may.entry (inl may.pending)

-- ---- pending entries

pub Contains-filter : {X : Type 0} (p : X → Bool) (xs : List X) (x : X) → Contains (filter p xs) x → Contains xs x
Contains-filter {X} p xs x h =
    All-contains (Contains xs) (filter p xs) x (All-filter p (Contains xs) xs (All-contains_itself xs)) h

pub AllPairs-nil : {X : Type 0} (R : X → X → Type 0) → AllPairs R []
AllPairs-nil R i j d lt within = absurd (omega arith)

-- ---- waits of either kind

pub ItemWaits-by : (waits : List (List Target)) (whole : Bool) (i j : ℕ) → ItemWaitsBy waits whole i j → ItemWaits waits i j
ItemWaits-by waits whole i j (k, t, lt, at, is) = (k, t, lt, at, is.0)
