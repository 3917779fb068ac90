-- Lanes and machines as the code holds them.
use Rattle.std.specs.Prelude.{◌≡◌, ◌≢◌, ℕ, ◌<◌, ◌≤◌, ◌+◌, ◌-◌, ◌*◌, ◌^◌, if◌then◌else◌, List, [], ◌++◌, length}
use Rattle.std.specs.Prelude.{replicate, AllPairs, Some, None, Option, map, Bool, false, ◌==◌, ◌&&◌, ◌||◌, nat_lt}
use Rattle.std.specs.Prelude.{slice_get, slice_index_or, MatchOption, IsPermutation}
use Rattle.std.specs.List.{list_any}
use Rattle.std.specs.List.Sorted.{IsNonDecreasing}
use Rattle.wq_items.specs.declared.target.Target.{Target}
use Rattle.wq_items.specs.Table.{ItemWaitsBy, targets_of, flush_count, max_items, max_flushes}
use Rattle.wq_groups.specs.Assignment.{max_lanes}
use Rattle.wq_core.specs.declared.entry.Entry.{Entry}
use Rattle.wq_core.specs.declared.entry.Waiting.{Waiting}
use Rattle.wq_core.specs.declared.entry.Running.{Running}
use Rattle.wq_core.specs.declared.step.Step.{Step}
use Rattle.wq_core.specs.declared.step.Step.TheVariants.{Queue}
use Rattle.wq_core.specs.declared.step.StepError.{StepError}
use Rattle.wq_core.specs.declared.step.StepError.TheVariants.{NotLawful, NumbersUsedUp}
use Rattle.wq_core.specs.Wiring.{Wiring, IsWiring, max_helpers, helpers_of, items, lane_of, declared_by, count_on}
use Rattle.wq_core.specs.State.{Lane, State, max_number, lane_at, RunsIn, IsPendingOn, IsUnfinishedOn}
use Rattle.wq_core.specs.Rules.{Lawful, Gives, effect}
use Rattle.wq_core.specs.Runs.{after, IsRunFrom}

-- a lane; how many pending entries it has room for; whether it is ordered; and how many helpers it has
pub record HeldLane : Type 0 where
  pub lane : Lane
  pub room : ℕ
  pub ordered : Bool
  pub helpers : ℕ

-- what these helpers run, with a place for each helper that a lane may have
abbrev pub padded : List (Option Running) → List (Option Running)
padded helping = helping ++ replicate (max_helpers - length helping) None

-- the entry is of the item, with a number below the mark
abbrev pub is_below : ℕ → ℕ → Entry → Bool
is_below item mark e = (e.item == item) && nat_lt e.number mark

-- the entry that runs is of the item, with a number below the mark
abbrev pub runs_below : ℕ → ℕ → Option Running → Bool
runs_below item mark None = false
runs_below item mark (Some r) = is_below item mark r.entry

-- a context of the lane runs such an entry
abbrev pub lane_runs_below : ℕ → ℕ → Lane → Bool
lane_runs_below item mark lane = runs_below item mark lane.running || list_any (runs_below item mark) lane.helping

-- one of these helpers runs the entry
abbrev pub IsRunAmong : List (Option Running) → Entry → Type 0
IsRunAmong helping e = (h : ℕ) × (r : Running) × (slice_index_or helping h None ≡ Some r) × (r.entry ≡ e)

-- an unfinished entry of the item on the lane has a number below the mark
pub record LaneHasUnfinishedBelow (lane : Lane) (item mark : ℕ) : Type 0 where
  pub entry : Entry
  pub unfinished : IsUnfinishedOn lane entry
  pub of_item : entry.item ≡ item
  pub below : entry.number < mark

-- a pending entry of the item has a number below the mark
pub record HasPendingBelow (s : State) (item mark : ℕ) : Type 0 where
  pub lane : ℕ
  pub entry : Entry
  pub pending : IsPendingOn (lane_at s lane) entry
  pub of_item : entry.item ≡ item
  pub below : entry.number < mark

-- an entry of the item runs, and has a number below the mark
pub record RunsBelow (s : State) (item mark : ℕ) : Type 0 where
  pub lane : ℕ
  pub context : ℕ
  pub running : Running
  pub runs : RunsIn (lane_at s lane) context running
  pub of_item : running.entry.item ≡ item
  pub below : running.entry.number < mark

-- a number for each item and each kind of wait
abbrev pub wait_key : ℕ → Bool → ℕ
wait_key item whole = 2 * item + (if whole then 1 else 0)

-- the keys are those of the targets, sorted
pub record IsSortedOf (targets : List Target) (keys : List ℕ) : Type 0 where
  pub same : IsPermutation (map (λ (t : Target). wait_key t.item t.whole) targets) keys
  pub rise : IsNonDecreasing keys

-- the targets of each of the first n items, sorted
pub record AreSorted (n : ℕ) (waits : List (List Target)) (sorted : List (List ℕ)) : Type 0 where
  pub one_each : length sorted ≡ n
  pub each : (i : ℕ) → i < n → IsSortedOf (targets_of waits i) (slice_index_or sorted i [])

-- the numbers of the entries rise: each was queued after those before it
abbrev pub IsRising : List Entry → Type 0
IsRising entries = AllPairs (λ (e f : Entry). e.number < f.number) entries

-- a machine: its wiring, and its state
pub record Machine : Type 0 where
  pub wiring : Wiring
  pub state : State

-- what holds for the entry that a context runs: it has made at most as many waits as its item declares; while it waits,
-- it has made at least one, and its item declares a flush of what it waits for
pub record IsSoundRunning (w : Wiring) (r : Running) : Type 0 where
  pub made : r.made ≤ length (declared_by w r.entry.item)
  pub waits : (f : Waiting) → r.waiting ≡ Some f → (0 < r.made) × ItemWaitsBy w.waits f.whole r.entry.item f.target

-- only helpers that exist run something
abbrev pub AreHelpers : Wiring → State → Type 0
AreHelpers w s = (q c : ℕ) (r : Running) → RunsIn (lane_at s q) c r → c ≤ helpers_of w q

-- what holds for every state after a run: it has the wiring's lanes, and each has a place for each helper that it may
-- have; each entry is of an item that exists, is on that item's lane, and has a number that was given; a lane has at
-- most one pending entry of an item, and an item runs in at most one context, which exists; and what runs is sound
pub record IsSoundState (w : Wiring) (s : State) : Type 0 where
  pub one_each : length s.lanes ≡ w.lanes
  pub places : (q : ℕ) → length (lane_at s q).helping ≡ max_helpers
  pub own_lane : (q : ℕ) (e : Entry) → IsUnfinishedOn (lane_at s q) e → (e.item < items w) × (lane_of w e.item ≡ q)
  pub given : (q : ℕ) (e : Entry) → IsUnfinishedOn (lane_at s q) e → e.number < s.next
  pub once : (q : ℕ) → AllPairs (λ (e f : Entry). e.item ≢ f.item) (lane_at s q).pending
  pub one_context : (q c d : ℕ) (r x : Running) → RunsIn (lane_at s q) c r → RunsIn (lane_at s q) d x
      → r.entry.item ≡ x.entry.item → c ≡ d
  pub helpers : AreHelpers w s
  pub running : (q c : ℕ) (r : Running) → RunsIn (lane_at s q) c r → IsSoundRunning w r

-- what holds for every machine: its wiring and its state are sound, and within the limits of declarations, of
-- assignments, of helpers and of the numbers that are given
pub record IsMachine (m : Machine) : Type 0 where
  pub wiring : IsWiring m.wiring
  pub state : IsSoundState m.wiring m.state
  pub few_items : items m.wiring ≤ max_items
  pub few_flushes : flush_count m.wiring.waits ≤ max_flushes
  pub few_lanes : m.wiring.lanes ≤ max_lanes
  pub few_helpers : m.wiring.helpers ≤ max_helpers
  pub numbers : m.state.next < 2 ^ 32

-- the machine that these fields hold
abbrev pub machine_of : List (List Target) → List ℕ → List Bool → ℕ → List HeldLane → ℕ → Machine
machine_of waits lane_of_item bare helpers lanes next = record {
  wiring = record {
    waits = waits;
    lane_of_item = lane_of_item;
    lanes = length lanes;
    ordered = map (λ (h : HeldLane). h.ordered) lanes;
    bare = bare;
    helpers = helpers;
  };
  state = record { next = next; lanes = map (λ (h : HeldLane). h.lane) lanes };
}

-- lane q has room for all its items
abbrev pub HasRoom : List ℕ → ℕ → HeldLane → Type 0
HasRoom lane_of_item q h = count_on lane_of_item q ≤ h.room

-- for each item in turn, the number of its pending entry, or none if no entry of it is pending
pub record IsNumbering (w : Wiring) (s : State) (numbers : List (Option ℕ)) : Type 0 where
  pub one_each : length numbers ≡ items w
  pub pending : (i n : ℕ) → slice_index_or numbers i None ≡ Some n
      → IsPendingOn (lane_at s (lane_of w i)) (record { number = n; item = i })
  pub noted : (q : ℕ) (e : Entry) → IsPendingOn (lane_at s q) e → slice_index_or numbers e.item None ≡ Some e.number

-- what holds for these fields: the machine is sound; each lane has room for all its items, and has its helpers; the
-- numbers are those of the pending entries, and they rise on each lane
pub record IsHeld (waits : List (List Target)) (lane_of_item : List ℕ) (bare : List Bool) (helpers : ℕ)
    (pending : List (Option ℕ)) (lanes : List HeldLane) (next : ℕ) : Type 0 where
  pub machine : IsMachine (machine_of waits lane_of_item bare helpers lanes next)
  pub room : (q : ℕ) (h : HeldLane) → slice_get lanes q ≡ Some h → HasRoom lane_of_item q h
  pub helped : (q : ℕ) (h : HeldLane) → slice_get lanes q ≡ Some h
      → h.helpers ≡ helpers_of (machine_of waits lane_of_item bare helpers lanes next).wiring q
  pub numbers : IsNumbering (machine_of waits lane_of_item bare helpers lanes next).wiring
      (machine_of waits lane_of_item bare helpers lanes next).state pending
  pub rising : (q : ℕ) → IsRising (lane_at (machine_of waits lane_of_item bare helpers lanes next).state q).pending

-- ---- steps of a machine

-- the number that a step gives, if it is lawful
abbrev pub IsNumberOf : Machine → Step → Option ℕ → Type 0
IsNumberOf m step answer =
    MatchOption answer (¬ Lawful m.wiring m.state step) (λ n. Lawful m.wiring m.state step × Gives m.state step n)

-- the step is a queueing, and would be given the number that no entry is given
abbrev pub UsesUp : State → Step → Type 0
UsesUp s (Queue i) = s.next ≡ max_number
UsesUp s _ = ⊥

-- the machine after a step
abbrev pub machine_after : Machine → Step → Machine
machine_after m step = record { wiring = m.wiring; state = effect m.wiring m.state step }

-- a step is done, and gives n
pub record IsDone (old : Machine) (step : Step) (n : ℕ) (new : Machine) : Type 0 where
  pub lawful : Lawful old.wiring old.state step
  pub number_left : ¬ UsesUp old.state step
  pub gives : Gives old.state step n
  pub after : new ≡ machine_after old step

-- why a step isn't done
abbrev pub IsRefusal : Machine → Step → StepError → Type 0
IsRefusal m step NotLawful = ¬ Lawful m.wiring m.state step
IsRefusal m step NumbersUsedUp = Lawful m.wiring m.state step × UsesUp m.state step

-- the number of such a refusal
abbrev pub step_code : StepError → ℕ
step_code NotLawful = 30
step_code NumbersUsedUp = 31

-- steps are done, each lawful in its turn
pub record AreDone (old : Machine) (steps : List Step) (new : Machine) : Type 0 where
  pub lawful : IsRunFrom old.wiring old.state steps
  pub wiring : new.wiring ≡ old.wiring
  pub state : new.state ≡ after old.wiring old.state steps
