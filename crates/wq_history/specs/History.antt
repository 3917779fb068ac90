-- Histories: lists of rows, and which of them are legal.
use Rattle.std.specs.Prelude.{◌≡◌, ℕ, ◌-◌, ◌<◌, List, take, slice_get, Some, Bool, true, MatchBool, ◌&&◌, IsTrue, ◌↔◌}
use Rattle.std.specs.List.{count_by}
use Rattle.wq_core.specs.declared.step.Step.{Step}
use Rattle.wq_core.specs.declared.step.Step.TheVariants.{Queue as QueueStep, Cancel as CancelStep, Start as StartStep}
use Rattle.wq_core.specs.declared.step.Step.TheVariants.{Wait as WaitStep, Over as OverStep, WaitAll as WaitAllStep}
use Rattle.wq_core.specs.declared.step.Step.TheVariants.{OverAll as OverAllStep, Finish as FinishStep}
use Rattle.wq_core.specs.declared.step.Step.TheVariants.{Help as HelperStep}
use Rattle.wq_core.specs.declared.step.HelpStep.{HelpStep}
use Rattle.wq_core.specs.declared.step.HelpStep.TheVariants.{Start as DoStart, Wait as DoWait, WaitAll as DoWaitAll}
use Rattle.wq_core.specs.declared.step.HelpStep.TheVariants.{Over as DoOver, OverAll as DoOverAll, Finish as DoFinish}
use Rattle.wq_core.specs.Wiring.{Wiring, items, lane_of}
use Rattle.wq_core.specs.State.{State, lane_at, HasPending, HasUnfinishedOf, HasUnfinishedBelow, IsBusy, IsBusyBelow}
use Rattle.wq_core.specs.Rules.{Lawful, Gives}
use Rattle.wq_core.specs.Runs.{end_of}
use Rattle.wq_rows.specs.declared.event.Event.{Event}
use Rattle.wq_rows.specs.declared.event.Event.TheVariants.{Queue, Cancel, Start, Wait, Over, Finish, Ask, Told, WaitAll}
use Rattle.wq_rows.specs.declared.event.Event.TheVariants.{OverAll, AskLane, ToldLane, Help}
use Rattle.wq_rows.specs.declared.event.Row.{Row}
use Rattle.wq_history.specs.declared.asking.Subject.{Subject}
use Rattle.wq_history.specs.declared.asking.Subject.TheVariants.{Item as OfItem, Lane as OfLane}
use Rattle.wq_history.specs.Events.{steps_of, subject_in, begins_to_wait, ends_a_wait, is_ask, is_told}

-- the replay: the state after the steps of these rows
abbrev pub state_after : Wiring → List Row → State
state_after w rows = end_of w (steps_of rows)

-- how many asks about an item or a lane are waiting: those that were answered with yes, minus those that were told
abbrev pub asks_waiting : Subject → List Row → ℕ
asks_waiting x rows = count_by (begins_to_wait x) rows - count_by (ends_a_wait x) rows

-- how many asks are waiting in all, about items and about lanes
abbrev pub all_asks_waiting : List Row → ℕ
all_asks_waiting rows =
    count_by (λ (row : Row). is_ask row.event && row.yes) rows - count_by (λ (row : Row). is_told row.event) rows

-- the step is lawful in the state, and gives this number
abbrev pub Makes : Wiring → State → Step → ℕ → Type 0
Makes w s step number = Lawful w s step × Gives s step number

-- `said` says whether the item has an unfinished entry
abbrev pub SaysUnfinished : State → ℕ → Bool → Type 0
SaysUnfinished s i said = IsTrue said ↔ HasUnfinishedOf s i

-- `said` says whether the lane has an unfinished entry
abbrev pub SaysBusy : State → ℕ → Bool → Type 0
SaysBusy s q said = IsTrue said ↔ IsBusy (lane_at s q)

-- `said` says whether the item, or the lane, has an unfinished entry
abbrev pub SaysUnfinishedOf : State → Subject → Bool → Type 0
SaysUnfinishedOf s (OfItem i) said = SaysUnfinished s i said
SaysUnfinishedOf s (OfLane q) said = SaysBusy s q said

-- `said` is the answer of a deed: for a wait it says whether the item, or its whole
-- lane, has an unfinished entry; any other has yes
abbrev pub Says : Wiring → State → HelpStep → Bool → Type 0
Says w s (DoStart i) said = said ≡ true
Says w s (DoWait b) said = SaysUnfinished s b said
Says w s (DoWaitAll b) said = SaysBusy s (lane_of w b) said
Says w s (DoOver b) said = said ≡ true
Says w s (DoOverAll b) said = said ≡ true
Says w s (DoFinish i) said = said ≡ true

-- there is such an item, or such a lane
abbrev pub IsThere : Wiring → Subject → Type 0
IsThere w (OfItem i) = i < items w
IsThere w (OfLane q) = q < w.lanes

-- in a state in which this many asks about its subject wait, an event may come with this `yes` and this number. A
-- queueing is accepted exactly if the item isn't pending; a cancellation removes an entry exactly if one is pending; a
-- wait and an ask say whether the item, or the lane, has an unfinished entry; and a caller is told only if an ask about
-- the subject waits, and no entry of it below the number is unfinished. All other events have yes. The number is that
-- of the step; for an ask it is the next number; and if nothing is queued or removed, it is 0. The lanes and items of
-- legal histories exist, since their steps are lawful and callers are told only of what was asked about
abbrev pub MayComeIn : Wiring → State → ℕ → Event → Bool → ℕ → Type 0
MayComeIn w s waiting (Queue i) said n =
    (i < items w) × MatchBool said (Makes w s (QueueStep i) n) (HasPending s i × (n ≡ 0))
MayComeIn w s waiting (Cancel i) said n =
    (i < items w) × MatchBool said (Makes w s (CancelStep i) n) ((¬ HasPending s i) × (n ≡ 0))
MayComeIn w s waiting (Start q i) said n = (said ≡ true) × Makes w s (StartStep q i) n
MayComeIn w s waiting (Wait q b) said n = SaysUnfinished s b said × Makes w s (WaitStep q b) n
MayComeIn w s waiting (Over q b) said n = (said ≡ true) × Makes w s (OverStep q b) n
MayComeIn w s waiting (Finish q i) said n = (said ≡ true) × Makes w s (FinishStep q i) n
MayComeIn w s waiting (Ask i) said n = (i < items w) × SaysUnfinished s i said × (n ≡ s.next)
MayComeIn w s waiting (Told i) said n = (said ≡ true) × (0 < waiting) × (¬ HasUnfinishedBelow s i n)
MayComeIn w s waiting (WaitAll q b) said n = SaysBusy s (lane_of w b) said × Makes w s (WaitAllStep q b) n
MayComeIn w s waiting (OverAll q b) said n = (said ≡ true) × Makes w s (OverAllStep q b) n
MayComeIn w s waiting (AskLane q) said n = (q < w.lanes) × SaysBusy s q said × (n ≡ s.next)
MayComeIn w s waiting (ToldLane q) said n = (said ≡ true) × (0 < waiting) × (¬ IsBusyBelow (lane_at s q) n)
MayComeIn w s waiting (Help q h deed) said n = Says w s deed said × Makes w s (HelperStep q h deed) n

-- after these rows an event may come with this `yes` and this number
abbrev pub MayCome : Wiring → List Row → Event → Bool → ℕ → Type 0
MayCome w rows event said n = MayComeIn w (state_after w rows) (asks_waiting (subject_in event) rows) event said n

-- a row may follow these rows
abbrev pub MayFollow : Wiring → List Row → Row → Type 0
MayFollow w rows row = MayCome w rows row.event row.yes row.number

-- a history is legal: each row may follow the rows before it
abbrev pub IsLegal : Wiring → List Row → Type 0
IsLegal w rows = (n : ℕ) (row : Row) → slice_get rows n ≡ Some row → MayFollow w (take n rows) row
