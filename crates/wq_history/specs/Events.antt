-- Events: which step of the machine a row records, and what a caller asks about.
use Rattle.std.specs.Prelude.{ℕ, zero, suc, List, Option, Some, None, Bool, true, false, ◌==◌, ◌&&◌}
use Rattle.std.specs.List.{filter_map}
use Rattle.wq_core.specs.declared.step.Step.{Step}
use Rattle.wq_core.specs.declared.step.Step.TheVariants.{Queue as QueueStep, Cancel as CancelStep, Start as StartStep}
use Rattle.wq_core.specs.declared.step.Step.TheVariants.{Wait as WaitStep, Over as OverStep, WaitAll as WaitAllStep}
use Rattle.wq_core.specs.declared.step.Step.TheVariants.{OverAll as OverAllStep, Finish as FinishStep}
use Rattle.wq_core.specs.declared.step.Step.TheVariants.{Help as HelperStep}
use Rattle.wq_core.specs.declared.step.HelpStep.{HelpStep}
use Rattle.wq_core.specs.declared.step.HelpStep.TheVariants.{Start as DoStart, Wait as DoWait, WaitAll as DoWaitAll}
use Rattle.wq_core.specs.declared.step.HelpStep.TheVariants.{Over as DoOver, OverAll as DoOverAll, Finish as DoFinish}
use Rattle.wq_core.specs.Rules.{wait_deed, over_deed}
use Rattle.wq_rows.specs.declared.event.Event.{Event}
use Rattle.wq_rows.specs.declared.event.Event.TheVariants.{Queue, Cancel, Start, Wait, Over, Finish, Ask, Told, WaitAll}
use Rattle.wq_rows.specs.declared.event.Event.TheVariants.{OverAll, AskLane, ToldLane, Help}
use Rattle.wq_rows.specs.declared.event.Row.{Row}
use Rattle.wq_rows.specs.Packing.{item_in}
use Rattle.wq_history.specs.declared.asking.Subject.{Subject}
use Rattle.wq_history.specs.declared.asking.Subject.TheVariants.{Item as OfItem, Lane as OfLane}

-- the step that an event with this `yes` makes, if it makes one: a queueing that isn't accepted and a cancellation that
-- finds nothing make none, nor do callers who ask or are told
abbrev pub step_of : Event → Bool → Option Step
step_of (Queue i) true = Some (QueueStep i)
step_of (Cancel i) true = Some (CancelStep i)
step_of (Start q i) said = Some (StartStep q i)
step_of (Wait q b) said = Some (WaitStep q b)
step_of (Over q b) said = Some (OverStep q b)
step_of (Finish q i) said = Some (FinishStep q i)
step_of (WaitAll q b) said = Some (WaitAllStep q b)
step_of (OverAll q b) said = Some (OverAllStep q b)
step_of (Help q h deed) said = Some (HelperStep q h deed)
step_of _ _ = None

-- the steps that rows make, in their order
abbrev pub steps_of : List Row → List Step
steps_of rows = filter_map (λ (row : Row). step_of row.event row.yes) rows

-- ---- what a context does: 0 is the rescuer of the lane, and the others are its helpers

-- context c of lane q does this
abbrev pub event_in : ℕ → ℕ → HelpStep → Event
event_in q zero (DoStart i) = Start q i
event_in q zero (DoWait b) = Wait q b
event_in q zero (DoWaitAll b) = WaitAll q b
event_in q zero (DoOver b) = Over q b
event_in q zero (DoOverAll b) = OverAll q b
event_in q zero (DoFinish i) = Finish q i
event_in q (suc h) deed = Help q (suc h) deed

-- context c of lane q starts the pending entry of item i
abbrev pub start_event : ℕ → ℕ → ℕ → Event
start_event q c i = event_in q c (DoStart i)

-- what context c of lane q runs begins to wait for item b, or for the whole lane of b
abbrev pub wait_event : Bool → ℕ → ℕ → ℕ → Event
wait_event whole q c b = event_in q c (wait_deed whole b)

-- such a wait is over
abbrev pub over_event : Bool → ℕ → ℕ → ℕ → Event
over_event whole q c b = event_in q c (over_deed whole b)

-- context c of lane q finishes what it runs, an entry of item i
abbrev pub finish_event : ℕ → ℕ → ℕ → Event
finish_event q c i = event_in q c (DoFinish i)

-- ---- asks, by what they are about

-- what an event is about: a lane for AskLane and ToldLane, and an item for all others
abbrev pub subject_in : Event → Subject
subject_in (AskLane q) = OfLane q
subject_in (ToldLane q) = OfLane q
subject_in event = OfItem (item_in event)

-- a caller asks about this
abbrev pub ask_event : Subject → Event
ask_event (OfItem i) = Ask i
ask_event (OfLane q) = AskLane q

-- a caller who asked about this is told
abbrev pub told_event : Subject → Event
told_event (OfItem i) = Told i
told_event (OfLane q) = ToldLane q

-- two subjects are the same
abbrev pub is_subject : Subject → Subject → Bool
is_subject (OfItem i) (OfItem j) = j == i
is_subject (OfItem i) (OfLane p) = false
is_subject (OfLane q) (OfItem j) = false
is_subject (OfLane q) (OfLane p) = p == q

-- a caller asks about the subject
abbrev pub asks : Subject → Event → Bool
asks x (Ask j) = is_subject x (OfItem j)
asks x (AskLane q) = is_subject x (OfLane q)
asks x _ = false

-- a caller who asked about the subject is told
abbrev pub tells : Subject → Event → Bool
tells x (Told j) = is_subject x (OfItem j)
tells x (ToldLane q) = is_subject x (OfLane q)
tells x _ = false

-- the row is of a caller who begins to wait for the subject
abbrev pub begins_to_wait : Subject → Row → Bool
begins_to_wait x row = asks x row.event && row.yes

-- the row ends such a wait
abbrev pub ends_a_wait : Subject → Row → Bool
ends_a_wait x row = tells x row.event

-- a caller asks about some item or some lane
abbrev pub is_ask : Event → Bool
is_ask (Ask j) = true
is_ask (AskLane q) = true
is_ask _ = false

-- a caller who asked about some item or some lane is told
abbrev pub is_told : Event → Bool
is_told (Told j) = true
is_told (ToldLane q) = true
is_told _ = false
