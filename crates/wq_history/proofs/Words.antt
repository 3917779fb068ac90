-- The names that most proofs cite, passed on from one place. Declares nothing.
pub use Rattle.wq_core.specs.Deadlock.{IsSafe}
pub use Rattle.wq_core.specs.Held.{IsMachine, IsSoundState, Machine, machine_after}
pub use Rattle.wq_core.specs.Rules.{Gives, IsHeldBack, Lawful, MayBeOver, MayDo, MayWait, deed_item, effect, over_deed}
pub use Rattle.wq_core.specs.Rules.{step_in, wait_deed, with_cancelled, with_finished, with_queued, with_started}
pub use Rattle.wq_core.specs.State.{HasUnfinished, HasUnfinishedBelow, IsBusy, IsBusyBelow}
pub use Rattle.wq_core.specs.State.{IsUnfinishedOn, Lane, RunsIn, State, empty_state, idle_lane, is_running, lane_at}
pub use Rattle.wq_core.specs.State.{next_of, run_by, with_run_by}
pub use Rattle.wq_core.specs.Wiring.{HasContext, HasHelper, IsWiring, Wiring, declared_by, helpers_of, items, lane_of}
pub use Rattle.wq_core.specs.Wiring.{max_helpers}
pub use Rattle.wq_core.specs.Work.{lane_work, work_left}
pub use Rattle.wq_core.specs.declared.entry.Entry.{Entry}
pub use Rattle.wq_core.specs.declared.entry.Running.{Running}
pub use Rattle.wq_core.specs.declared.entry.Waiting.{Waiting}
pub use Rattle.wq_core.specs.declared.step.Context.{Context}
pub use Rattle.wq_core.specs.declared.step.HelpStep.{HelpStep}
pub use Rattle.wq_core.specs.declared.step.HelpStep.TheVariants.{Finish as DoFinish, Over as DoOver}
pub use Rattle.wq_core.specs.declared.step.HelpStep.TheVariants.{OverAll as DoOverAll, Start as DoStart, Wait as DoWait}
pub use Rattle.wq_core.specs.declared.step.HelpStep.TheVariants.{WaitAll as DoWaitAll}
pub use Rattle.wq_core.specs.declared.step.Step.{Step}
pub use Rattle.wq_core.specs.declared.step.Step.TheVariants.{Cancel as CancelStep, Help as HelperStep}
pub use Rattle.wq_core.specs.declared.step.Step.TheVariants.{Queue as QueueStep}
pub use Rattle.wq_history.specs.Book.{Appends, AppendsOne, BookView, HasNothingToStart, HasPendingOn, HelperWaitsBy}
pub use Rattle.wq_history.specs.Book.{IsBook, IsNext, IsNotAwake, IsWaiting, IsWaitingBy, IsWrongToStart, LacksRows}
pub use Rattle.wq_history.specs.Book.{RunsItem, WaitsFor, free, state}
pub use Rattle.wq_history.specs.Calls.{Answers, IsEarly, IsRowOf, IsUnfinishedBelow, Refuses, RefusesIf, RefusesToTell}
pub use Rattle.wq_history.specs.Calls.{RefusesToWait, Replies, Writes, WritesTwo, after, sleepers_of, subject_of}
pub use Rattle.wq_history.specs.Calls.{waiters_for}
pub use Rattle.wq_history.specs.Counts.{AreCounted, AskView, CountsAll, CountsAsks, HoldsBook, Replays, ask_place}
pub use Rattle.wq_history.specs.Events.{ask_event, begins_to_wait, ends_a_wait, event_in, finish_event, is_ask, is_told}
pub use Rattle.wq_history.specs.Events.{over_event, start_event, step_of, steps_of, subject_in, told_event, wait_event}
pub use Rattle.wq_history.specs.History.{IsLegal, IsThere, Makes, MayCome, MayComeIn, MayFollow, Says}
pub use Rattle.wq_history.specs.History.{SaysUnfinishedOf, all_asks_waiting, asks_waiting, state_after}
pub use Rattle.wq_history.specs.Judging.{counted, stepped}
pub use Rattle.wq_history.specs.Reserve.{free_rows, reserved, rows_needed}
pub use Rattle.wq_history.specs.Waits.{AllDone, Condition, EndOf, WakesBy, WakesEnough, WorkOn, sleepers_for, startable}
pub use Rattle.wq_history.specs.declared.asking.Subject.{Subject}
pub use Rattle.wq_history.specs.declared.asking.Subject.TheVariants.{Item as OfItem, Lane as OfLane}
pub use Rattle.wq_history.specs.declared.call.Call.{Call}
pub use Rattle.wq_history.specs.declared.call.Call.TheVariants.{Ask, Cancel, CancelSync, Close, Drain, Finish, Over}
pub use Rattle.wq_history.specs.declared.call.Call.TheVariants.{Queue, Start, Told, Wait}
pub use Rattle.wq_history.specs.declared.call.Flush.{Flush}
pub use Rattle.wq_history.specs.declared.call.Reply.{Reply}
pub use Rattle.wq_history.specs.declared.call.Reply.TheVariants.{Done, NotYet, Wrote, WroteTwo}
pub use Rattle.wq_history.specs.declared.fault.BookError.{BookError}
pub use Rattle.wq_history.specs.declared.fault.CallError.{CallError}
pub use Rattle.wq_history.specs.declared.fault.CallError.TheVariants.{Closed, HistoryFull, NoItem, NotAsked}
pub use Rattle.wq_history.specs.declared.fault.CallError.TheVariants.{TooManyWaits, Undeclared, WrongLane}
pub use Rattle.wq_history.specs.declared.sleepers.Wake.{Wake}
pub use Rattle.wq_rows.specs.Packing.{item_in, lane_in}
pub use Rattle.wq_rows.specs.Stored.{max_rows}
pub use Rattle.wq_rows.specs.declared.event.Event.{Event}
pub use Rattle.wq_rows.specs.declared.event.Event.TheVariants.{Ask as AskEvent, AskLane as AskLaneEvent}
pub use Rattle.wq_rows.specs.declared.event.Event.TheVariants.{Cancel as CancelEvent, Queue as QueueEvent}
pub use Rattle.wq_rows.specs.declared.event.Row.{Row}
