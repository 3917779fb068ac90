-- States: what is queued and what runs, lane by lane.
use Rattle.std.specs.Prelude.{◌≡◌, ℕ, zero, suc, ◌<◌, ◌==◌, ◌||◌, not, Bool, false, ◌⊎◌, List, [], replicate, find}
use Rattle.std.specs.Prelude.{slice_index_or, slice_set, Option, Some, None, Contains}
use Rattle.std.specs.List.{list_any}
use Rattle.wq_core.specs.declared.entry.Entry.{Entry}
use Rattle.wq_core.specs.declared.entry.Running.{Running}
use Rattle.wq_core.specs.Wiring.{Wiring, max_helpers}

-- the entries that are pending on a lane, the oldest first; what its rescuer runs; and what each of its helpers runs,
-- helper 1 first. There is a place for each helper that a lane may have
pub record Lane : Type 0 where
  pub pending : List Entry
  pub running : Option Running
  pub helping : List (Option Running)

-- the number that the next queueing gets, and the lanes in turn
pub record State : Type 0 where
  pub next : ℕ
  pub lanes : List Lane

-- the number that no entry is given; a mark may be this great
abbrev pub max_number : ℕ
max_number = 4294967295

-- nothing is pending, and nothing runs
abbrev pub idle_lane : Lane
idle_lane = record { pending = []; running = None; helping = replicate max_helpers None }

-- lane q; a lane that doesn't exist counts as one that stays idle
abbrev pub lane_at : State → ℕ → Lane
lane_at s q = slice_index_or s.lanes q idle_lane

-- the state with this lane in place of lane q, if there is a lane q
abbrev pub with_lane : State → ℕ → Lane → State
with_lane s q lane = record s { lanes = slice_set s.lanes q lane }

-- the state before anything is queued
abbrev pub empty_state : Wiring → State
empty_state w = record { next = 0; lanes = replicate w.lanes idle_lane }

-- what a context of the lane runs: 0 is the rescuer, and helpers are numbered from 1
abbrev pub run_by : Lane → ℕ → Option Running
run_by lane zero = lane.running
run_by lane (suc h) = slice_index_or lane.helping h None

-- the lane, where this context runs this
abbrev pub with_run_by : Lane → ℕ → Option Running → Lane
with_run_by lane zero running = record lane { running = running }
with_run_by lane (suc h) running = record lane { helping = slice_set lane.helping h running }

-- the context runs this
abbrev pub RunsIn : Lane → ℕ → Running → Type 0
RunsIn lane c r = run_by lane c ≡ Some r

-- the lane's rescuer runs this
abbrev pub Runs : Lane → Running → Type 0
Runs lane r = RunsIn lane 0 r

-- what runs is an entry of the item
abbrev pub runs_item : ℕ → Option Running → Bool
runs_item item None = false
runs_item item (Some r) = r.entry.item == item

-- a context of the lane runs an entry of the item
abbrev pub is_running : Lane → ℕ → Bool
is_running lane item = runs_item item lane.running || list_any (runs_item item) lane.helping

-- the first pending entry whose item isn't running
abbrev pub next_of : Lane → Option Entry
next_of lane = find (λ (e : Entry). not (is_running lane e.item)) lane.pending

-- the first pending entry of the item (after a run there is at most one)
abbrev pub pending_of : Lane → ℕ → Option Entry
pending_of lane item = find (λ (e : Entry). e.item == item) lane.pending

-- the entry is pending on the lane
abbrev pub IsPendingOn : Lane → Entry → Type 0
IsPendingOn lane e = Contains lane.pending e

-- a context of the lane runs the entry
abbrev pub IsRunOn : Lane → Entry → Type 0
IsRunOn lane e = (c : ℕ) × (r : Running) × RunsIn lane c r × (r.entry ≡ e)

-- the entry is unfinished on the lane: it is pending, or a context runs it
abbrev pub IsUnfinishedOn : Lane → Entry → Type 0
IsUnfinishedOn lane e = IsPendingOn lane e ⊎ IsRunOn lane e

-- an entry of the item is pending, on some lane
pub record HasPending (s : State) (item : ℕ) : Type 0 where
  pub lane : ℕ
  pub entry : Entry
  pub pending : IsPendingOn (lane_at s lane) entry
  pub of_item : entry.item ≡ item

-- an entry of the item is unfinished, on some lane
pub record HasUnfinishedOf (s : State) (item : ℕ) : Type 0 where
  pub lane : ℕ
  pub entry : Entry
  pub unfinished : IsUnfinishedOn (lane_at s lane) entry
  pub of_item : entry.item ≡ item

-- an unfinished entry of the item has a number below the mark
pub record HasUnfinishedBelow (s : State) (item mark : ℕ) : Type 0 where
  pub lane : ℕ
  pub entry : Entry
  pub unfinished : IsUnfinishedOn (lane_at s lane) entry
  pub of_item : entry.item ≡ item
  pub below : entry.number < mark

-- an entry of the lane is unfinished
abbrev pub IsBusy : Lane → Type 0
IsBusy lane = (e : Entry) × IsUnfinishedOn lane e

-- an unfinished entry of the lane has a number below the mark
pub record IsBusyBelow (lane : Lane) (mark : ℕ) : Type 0 where
  pub entry : Entry
  pub unfinished : IsUnfinishedOn lane entry
  pub below : entry.number < mark

-- an entry is unfinished
pub record HasUnfinished (s : State) : Type 0 where
  pub lane : ℕ
  pub entry : Entry
  pub unfinished : IsUnfinishedOn (lane_at s lane) entry
