-- Answers: what the calls of a book answer, and by which row.
use Rattle.std.specs.Prelude.{◌≡◌, ℕ, ◌<◌, Option, Some, None, Bool, true, false}
use Rattle.wq_core.specs.declared.entry.Waiting.{Waiting}
use Rattle.wq_core.specs.State.{lane_at, HasUnfinishedBelow, IsBusyBelow}
use Rattle.wq_rows.specs.declared.event.Event.TheVariants.{Ask as AskEvent, Told as ToldEvent, AskLane as AskLaneEvent}
use Rattle.wq_rows.specs.declared.event.Event.TheVariants.{ToldLane as ToldLaneEvent}
use Rattle.wq_history.specs.declared.asking.Ask.{Ask}
use Rattle.wq_history.specs.declared.asking.Ask.TheVariants.{Idle, Waiting as WaitingAnswer}
use Rattle.wq_history.specs.declared.asking.Asked.{Asked}
use Rattle.wq_history.specs.declared.asking.Told.{Told}
use Rattle.wq_history.specs.declared.asking.Told.TheVariants.{Done, NotYet, NotAsked}
use Rattle.wq_history.specs.declared.asking.LaneAsk.{LaneAsk}
use Rattle.wq_history.specs.declared.asking.LaneAsk.TheVariants.{Idle as LaneIdle, Waiting as LaneWaitingAnswer}
use Rattle.wq_history.specs.declared.asking.LaneAsked.{LaneAsked}
use Rattle.wq_history.specs.declared.asking.LaneTold.{LaneTold}
use Rattle.wq_history.specs.declared.asking.LaneTold.TheVariants.{Done as LaneDone, NotYet as LaneNotYet}
use Rattle.wq_history.specs.declared.asking.LaneTold.TheVariants.{NotAsked as LaneNotAsked}
use Rattle.wq_history.specs.declared.asking.Subject.TheVariants.{Item as OfItem, Lane as OfLane}
use Rattle.wq_history.specs.Events.{start_event, over_event}
use Rattle.wq_history.specs.History.{asks_waiting}
use Rattle.wq_history.specs.Book.{BookView, state, Appends, AppendsOne, IsNext, IsWaiting, HasNothingToStart}
use Rattle.wq_history.specs.Book.{WaitGoesOn}

-- `ask` of item i: a row says whether it has an unfinished entry; a caller who waits
-- holds the item, and the number of the row as its mark
abbrev pub AnswersAsk : BookView → BookView → ℕ → Ask → Type 0
AnswersAsk old new i Idle = AppendsOne old new (AskEvent i) false
AnswersAsk old new i (WaitingAnswer asked) = (asked.item ≡ i) × Appends old new (AskEvent i) true asked.mark

-- `told`: a row says that the wait is over; or nothing is changed and the ask is given back, because an entry that it
-- waits for is unfinished, or because no ask of its item waits
abbrev pub AnswersTold : BookView → BookView → Asked → Told → Type 0
AnswersTold old new asked Done = Appends old new (ToldEvent asked.item) true asked.mark
AnswersTold old new asked (NotYet same) = (same ≡ asked) × (new ≡ old) × (0 < asks_waiting (OfItem asked.item) old.rows)
    × HasUnfinishedBelow (state old) asked.item asked.mark
AnswersTold old new asked (NotAsked same) =
    (same ≡ asked) × (new ≡ old) × (asks_waiting (OfItem asked.item) old.rows ≡ 0)

-- `ask_lane` of lane q: a row says whether it has an unfinished entry; a caller who waits holds the lane, and the
-- number of the row as its mark
abbrev pub AnswersAskLane : BookView → BookView → ℕ → LaneAsk → Type 0
AnswersAskLane old new q LaneIdle = AppendsOne old new (AskLaneEvent q) false
AnswersAskLane old new q (LaneWaitingAnswer asked) = (asked.lane ≡ q) × Appends old new (AskLaneEvent q) true asked.mark

-- `told_lane`: a row says that the wait is over; or nothing is changed and the ask is given back, because an entry that
-- it waits for is unfinished, or because no ask of its lane waits
abbrev pub AnswersToldLane : BookView → BookView → LaneAsked → LaneTold → Type 0
AnswersToldLane old new asked LaneDone = Appends old new (ToldLaneEvent asked.lane) true asked.mark
AnswersToldLane old new asked (LaneNotYet same) =
    (same ≡ asked) × (new ≡ old) × (0 < asks_waiting (OfLane asked.lane) old.rows)
    × IsBusyBelow (lane_at (state old) asked.lane) asked.mark
AnswersToldLane old new asked (LaneNotAsked same) =
    (same ≡ asked) × (new ≡ old) × (asks_waiting (OfLane asked.lane) old.rows ≡ 0)

-- `start` of context c of lane q: the next item is started, and a row says so; or
-- nothing is changed, because nothing can be started
abbrev pub AnswersStart : BookView → BookView → ℕ → ℕ → Option ℕ → Type 0
AnswersStart old new q c (Some i) = IsNext old q i × AppendsOne old new (start_event q c i) true
AnswersStart old new q c None = HasNothingToStart old q c × (new ≡ old)

-- `over` of context c of lane q: a row says that the wait is over, of the kind and for the target for which it waited;
-- or nothing is changed, because the wait goes on
abbrev pub AnswersOver : BookView → BookView → ℕ → ℕ → Bool → Type 0
AnswersOver old new q c true =
    (f : Waiting) × IsWaiting old q c f × AppendsOne old new (over_event f.whole q c f.target) true
AnswersOver old new q c false = WaitGoesOn old q c × (new ≡ old)
