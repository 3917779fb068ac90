-- Why a step of a run isn't lawful.
use Rattle.std.specs.Prelude.{◌≡◌, ◌<◌, ◌-◌, ℕ, false, List, None, Some, length, slice_get, take}
use Rattle.wq_items.specs.Table.{ItemWaitsBy}
use Rattle.wq_core.specs.declared.entry.Entry.{Entry}
use Rattle.wq_core.specs.declared.entry.Running.{Running}
use Rattle.wq_core.specs.declared.entry.Waiting.{Waiting}
use Rattle.wq_core.specs.declared.step.Step.{Step}
use Rattle.wq_core.specs.declared.step.Step.TheVariants.{Queue, Cancel, Start, Wait, Over, WaitAll, OverAll, Finish}
use Rattle.wq_core.specs.declared.step.Step.TheVariants.{Help}
use Rattle.wq_core.specs.Rules.{IsHeldBack, Lawful, deed_item}
use Rattle.wq_core.specs.Runs.{end_of}
use Rattle.wq_core.specs.State.{State, lane_at, is_running, Runs, HasPending}
use Rattle.wq_core.specs.Wiring.{Wiring, items, declared_by}
use Rattle.wq_checker.specs.RunEnds.{IsFirstUnlawful}
use Rattle.wq_diagnosis.specs.declared.unlawful.Unlawful.{Unlawful}
use Rattle.wq_diagnosis.specs.declared.unlawful.Unlawful.TheVariants as why

-- the workqueue that a step names; 0 for the steps that name none
abbrev pub named_workqueue : Step → ℕ
named_workqueue (Start q i) = q
named_workqueue (Wait q b) = q
named_workqueue (Over q b) = q
named_workqueue (WaitAll q b) = q
named_workqueue (OverAll q b) = q
named_workqueue (Finish q i) = q
named_workqueue (Help q h deed) = q
named_workqueue _ = 0

-- the item that a step names
abbrev pub named_item : Step → ℕ
named_item (Queue i) = i
named_item (Cancel i) = i
named_item (Start q i) = i
named_item (Wait q b) = b
named_item (Over q b) = b
named_item (WaitAll q b) = b
named_item (OverAll q b) = b
named_item (Finish q i) = i
named_item (Help q h deed) = deed_item deed

-- an entry of item j runs on the workqueue
abbrev pub RunsEntryOf : State → ℕ → ℕ → Running → Type 0
RunsEntryOf s q j r = Runs (lane_at s q) r × (r.entry.item ≡ j)

-- the reason holds in the state, for a step with this workqueue and this item
abbrev pub ReasonHolds : Wiring → State → ℕ → ℕ → Unlawful → Type 0
ReasonHolds w s q i why.NoItem = ¬ (i < items w)
ReasonHolds w s q i why.Pending = HasPending s i
ReasonHolds w s q i why.NotPending = ¬ HasPending s i
ReasonHolds w s q i (why.Runs j) = (r : Running) × RunsEntryOf s q j r
ReasonHolds w s q i why.NothingPending = slice_get (lane_at s q).pending 0 ≡ None
ReasonHolds w s q i (why.First j) =
    (e : Entry) × (slice_get (lane_at s q).pending 0 ≡ Some e) × (e.item ≡ j) × (is_running (lane_at s q) j ≡ false)
ReasonHolds w s q i why.NothingRuns = (lane_at s q).running ≡ None
ReasonHolds w s q i (why.Waits j f) = (r : Running) × RunsEntryOf s q j r × (r.waiting ≡ Some f)
ReasonHolds w s q i (why.Undeclared j whole) =
    (r : Running) × RunsEntryOf s q j r × (¬ ItemWaitsBy w.waits whole j i)
ReasonHolds w s q i (why.AllMade j) =
    (r : Running) × RunsEntryOf s q j r × (¬ (r.made < length (declared_by w j)))
ReasonHolds w s q i (why.Awake j) = (r : Running) × RunsEntryOf s q j r × (r.waiting ≡ None)
ReasonHolds w s q i (why.Unfinished whole) =
    (r : Running) × Runs (lane_at s q) r
    × ((f : Waiting) × (r.waiting ≡ Some f) × (f.whole ≡ whole) × IsHeldBack w s whole i f.mark)

-- the reason rules out the step: whatever is declared and whatever the state is, the step isn't lawful if the reason
-- holds
abbrev pub RulesOut : Unlawful → Step → Type 0
RulesOut reason step =
    (w : Wiring) (s : State) → ReasonHolds w s (named_workqueue step) (named_item step) reason → ¬ Lawful w s step

-- the reason forbids the step in the state: it rules out the step, and holds
pub record Forbids (w : Wiring) (s : State) (reason : Unlawful) (step : Step) : Type 0 where
  pub holds : ReasonHolds w s (named_workqueue step) (named_item step) reason
  pub rules_out : RulesOut reason step

-- step n, counted from 1, is the first that isn't lawful, and this reason forbids it in the state that the steps before
-- it leave
pub record IsFirstFor (w : Wiring) (steps : List Step) (n : ℕ) (step : Step) (reason : Unlawful) : Type 0 where
  pub first : IsFirstUnlawful w steps n
  pub same : first.step ≡ step
  pub forbids : Forbids w (end_of w (take (n - 1) steps)) reason step
