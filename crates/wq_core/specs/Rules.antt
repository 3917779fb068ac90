-- Rules: which steps are lawful in a state, what they do to it, and which number they give.
use Rattle.std.specs.Prelude.{◌≡◌, ℕ, zero, suc, Bool, true, false, ◌+◌, ◌<◌, ◌==◌, not, [], ◌∷◌, ◌++◌, length, filter}
use Rattle.std.specs.Prelude.{Some, None, option_map}
use Rattle.wq_items.specs.Table.{ItemWaitsBy}
use Rattle.wq_core.specs.declared.entry.Entry.{Entry}
use Rattle.wq_core.specs.declared.entry.Waiting.{Waiting}
use Rattle.wq_core.specs.declared.entry.Running.{Running}
use Rattle.wq_core.specs.declared.step.Step.{Step}
use Rattle.wq_core.specs.declared.step.Step.TheVariants.{Queue, Cancel, Start, Wait, Over, WaitAll, OverAll, Finish}
use Rattle.wq_core.specs.declared.step.Step.TheVariants.{Help}
use Rattle.wq_core.specs.declared.step.HelpStep.{HelpStep}
use Rattle.wq_core.specs.declared.step.HelpStep.TheVariants.{Start as DoStart, Wait as DoWait, WaitAll as DoWaitAll}
use Rattle.wq_core.specs.declared.step.HelpStep.TheVariants.{Over as DoOver, OverAll as DoOverAll, Finish as DoFinish}
use Rattle.wq_core.specs.Wiring.{Wiring, HasHelper, items, lane_of, declared_by}
use Rattle.wq_core.specs.State.{Lane, State, lane_at, with_lane, run_by, with_run_by, RunsIn, is_running, next_of}
use Rattle.wq_core.specs.State.{pending_of, IsPendingOn, HasPending, HasUnfinishedBelow, IsUnfinishedOn, IsBusyBelow}

-- ---- what one context may do with what it runs

-- what runs may begin to wait for item b, or for the whole lane of b: it isn't waiting, its item declares such a flush,
-- and it has made fewer waits than its item declares
pub record MayWait (w : Wiring) (whole : Bool) (b : ℕ) (r : Running) : Type 0 where
  pub awake : r.waiting ≡ None
  pub declared : ItemWaitsBy w.waits whole r.entry.item b
  pub fewer : r.made < length (declared_by w r.entry.item)

-- a wait with this mark isn't over yet: an unfinished entry of item b, or, for a wait for the whole lane of b, any
-- unfinished entry of that lane, has a number below the mark
abbrev pub IsHeldBack : Wiring → State → Bool → ℕ → ℕ → Type 0
IsHeldBack w s false b mark = HasUnfinishedBelow s b mark
IsHeldBack w s true b mark = IsBusyBelow (lane_at s (lane_of w b)) mark

-- item i holds such a wait back: an unfinished entry of i on the lane of b has a number below the mark, and i is b
-- itself unless the whole lane is waited for
pub record IsHolder (w : Wiring) (s : State) (whole : Bool) (b mark i : ℕ) : Type 0 where
  pub entry : Entry
  pub unfinished : IsUnfinishedOn (lane_at s (lane_of w b)) entry
  pub of_item : entry.item ≡ i
  pub below : entry.number < mark
  pub itself : whole ≡ false → i ≡ b

-- the wait of what runs, of this kind for item b, is over: nothing holds it back
pub record MayBeOver (w : Wiring) (s : State) (whole : Bool) (b : ℕ) (r : Running) : Type 0 where
  pub flush : Waiting
  pub waits : r.waiting ≡ Some flush
  pub kind : flush.whole ≡ whole
  pub target : flush.target ≡ b
  pub done : ¬ IsHeldBack w s whole b flush.mark

-- what runs may finish, an entry of item i: it isn't waiting
pub record MayFinish (i : ℕ) (r : Running) : Type 0 where
  pub entry : r.entry.item ≡ i
  pub awake : r.waiting ≡ None

-- ---- the steps of a context

-- the step of context c of lane q: its rescuer is 0, and its helpers are numbered from 1
abbrev pub step_in : ℕ → ℕ → HelpStep → Step
step_in q zero (DoStart i) = Start q i
step_in q zero (DoWait b) = Wait q b
step_in q zero (DoWaitAll b) = WaitAll q b
step_in q zero (DoOver b) = Over q b
step_in q zero (DoOverAll b) = OverAll q b
step_in q zero (DoFinish i) = Finish q i
step_in q (suc h) deed = Help q (suc h) deed

-- the item that the deed names
abbrev pub deed_item : HelpStep → ℕ
deed_item (DoStart i) = i
deed_item (DoWait b) = b
deed_item (DoWaitAll b) = b
deed_item (DoOver b) = b
deed_item (DoOverAll b) = b
deed_item (DoFinish i) = i

-- what a context runs begins to wait for item b, or for the whole lane of b
abbrev pub wait_deed : Bool → ℕ → HelpStep
wait_deed false b = DoWait b
wait_deed true b = DoWaitAll b

-- such a wait is over
abbrev pub over_deed : Bool → ℕ → HelpStep
over_deed false b = DoOver b
over_deed true b = DoOverAll b

-- what lane q's rescuer runs begins to wait for item b, or for the whole lane of b
abbrev pub wait_of : Bool → ℕ → ℕ → Step
wait_of false q b = Wait q b
wait_of true q b = WaitAll q b

-- such a wait is over
abbrev pub over_of : Bool → ℕ → ℕ → Step
over_of false q b = Over q b
over_of true q b = OverAll q b

-- ---- lawful steps

-- a context that runs nothing may start item i: an entry of it is pending, and no context runs one
pub record MayStart (lane : Lane) (c i : ℕ) : Type 0 where
  pub idle : run_by lane c ≡ None
  pub entry : Entry
  pub pending : IsPendingOn lane entry
  pub of_item : entry.item ≡ i
  pub not_running : is_running lane i ≡ false

-- a rescuer that runs nothing may start item i: the first pending entry whose item isn't running is of i
pub record MayStartFirst (lane : Lane) (i : ℕ) : Type 0 where
  pub idle : lane.running ≡ None
  pub entry : Entry
  pub first : next_of lane ≡ Some entry
  pub of_item : entry.item ≡ i

-- context c of lane q may do this: start an item that doesn't run, or go on with what it runs, as above
abbrev pub MayDo : Wiring → State → ℕ → ℕ → HelpStep → Type 0
MayDo w s q c (DoStart i) = MayStart (lane_at s q) c i
MayDo w s q c (DoWait b) = (r : Running) × RunsIn (lane_at s q) c r × MayWait w false b r
MayDo w s q c (DoWaitAll b) = (r : Running) × RunsIn (lane_at s q) c r × MayWait w true b r
MayDo w s q c (DoOver b) = (r : Running) × RunsIn (lane_at s q) c r × MayBeOver w s false b r
MayDo w s q c (DoOverAll b) = (r : Running) × RunsIn (lane_at s q) c r × MayBeOver w s true b r
MayDo w s q c (DoFinish i) = (r : Running) × RunsIn (lane_at s q) c r × MayFinish i r

-- a step is lawful: an item is queued only while no entry of it is pending, and cancelled only while one is; an idle
-- rescuer starts the first pending entry whose item isn't running, and an idle helper any such entry; and what runs
-- waits, goes on and finishes as above. Nothing is lawful on a lane that doesn't exist, nor for a helper that a lane
-- doesn't have, and after a run there is no entry of an item that doesn't exist
abbrev pub Lawful : Wiring → State → Step → Type 0
Lawful w s (Queue i) = (i < items w) × (¬ HasPending s i)
Lawful w s (Cancel i) = HasPending s i
Lawful w s (Start q i) = MayStartFirst (lane_at s q) i
Lawful w s (Wait q b) = MayDo w s q 0 (DoWait b)
Lawful w s (Over q b) = MayDo w s q 0 (DoOver b)
Lawful w s (WaitAll q b) = MayDo w s q 0 (DoWaitAll b)
Lawful w s (OverAll q b) = MayDo w s q 0 (DoOverAll b)
Lawful w s (Finish q i) = MayDo w s q 0 (DoFinish i)
Lawful w s (Help q h deed) = HasHelper w q h × MayDo w s q h deed

-- ---- what a step does

-- the entry is added at the end
abbrev pub with_queued : Entry → Lane → Lane
with_queued e lane = record lane { pending = lane.pending ++ (e ∷ []) }

-- each pending entry of item i is removed (after a run there is at most one), and the others keep their order
abbrev pub with_cancelled : ℕ → Lane → Lane
with_cancelled i lane = record lane { pending = filter (λ (e : Entry). not (e.item == i)) lane.pending }

-- the entry runs, and has made no wait
abbrev pub begun : Entry → Running
begun e = record { entry = e; made = 0; waiting = None }

-- the pending entry of item i is removed, and runs in context c
abbrev pub with_started : ℕ → ℕ → Lane → Lane
with_started c i lane = with_run_by (with_cancelled i lane) c (option_map begun (pending_of lane i))

-- it waits for item b in this way, with this mark, and has made one more wait
abbrev pub waiting_for : Bool → ℕ → ℕ → Running → Running
waiting_for whole b mark r =
    record r { made = r.made + 1; waiting = Some (record { target = b; whole = whole; mark = mark }) }

-- it no longer waits
abbrev pub going_on : Running → Running
going_on r = record r { waiting = None }

-- what context c runs waits for item b in this way, with this mark
abbrev pub with_wait : ℕ → Bool → ℕ → ℕ → Lane → Lane
with_wait c whole b mark lane = with_run_by lane c (option_map (waiting_for whole b mark) (run_by lane c))

-- what context c runs no longer waits
abbrev pub with_over : ℕ → Lane → Lane
with_over c lane = with_run_by lane c (option_map going_on (run_by lane c))

-- context c runs nothing
abbrev pub with_finished : ℕ → Lane → Lane
with_finished c lane = with_run_by lane c None

-- the state after what context c of lane q does
abbrev pub done_by : State → ℕ → ℕ → HelpStep → State
done_by s q c (DoStart i) = with_lane s q (with_started c i (lane_at s q))
done_by s q c (DoWait b) = with_lane s q (with_wait c false b s.next (lane_at s q))
done_by s q c (DoWaitAll b) = with_lane s q (with_wait c true b s.next (lane_at s q))
done_by s q c (DoOver b) = with_lane s q (with_over c (lane_at s q))
done_by s q c (DoOverAll b) = with_lane s q (with_over c (lane_at s q))
done_by s q c (DoFinish i) = with_lane s q (with_finished c (lane_at s q))

-- the state after a step: a queueing takes the next number, and each step changes one lane
abbrev pub effect : Wiring → State → Step → State
effect w s (Queue i) =
    let q = lane_of w i in
    record (with_lane s q (with_queued (record { number = s.next; item = i }) (lane_at s q))) { next = s.next + 1 }
effect w s (Cancel i) = let q = lane_of w i in with_lane s q (with_cancelled i (lane_at s q))
effect w s (Start q i) = done_by s q 0 (DoStart i)
effect w s (Wait q b) = done_by s q 0 (DoWait b)
effect w s (Over q b) = done_by s q 0 (DoOver b)
effect w s (WaitAll q b) = done_by s q 0 (DoWaitAll b)
effect w s (OverAll q b) = done_by s q 0 (DoOverAll b)
effect w s (Finish q i) = done_by s q 0 (DoFinish i)
effect w s (Help q h deed) = done_by s q h deed

-- ---- which number a step gives

-- the number of the entry that a context starts or finishes; the mark of its wait that begins or is over
abbrev pub GivesIn : State → ℕ → ℕ → HelpStep → ℕ → Type 0
GivesIn s q c (DoStart i) n = (e : Entry) × (pending_of (lane_at s q) i ≡ Some e) × (e.number ≡ n)
GivesIn s q c (DoWait b) n = n ≡ s.next
GivesIn s q c (DoWaitAll b) n = n ≡ s.next
GivesIn s q c (DoOver b) n =
    (r : Running) × RunsIn (lane_at s q) c r × ((f : Waiting) × (r.waiting ≡ Some f) × (f.mark ≡ n))
GivesIn s q c (DoOverAll b) n =
    (r : Running) × RunsIn (lane_at s q) c r × ((f : Waiting) × (r.waiting ≡ Some f) × (f.mark ≡ n))
GivesIn s q c (DoFinish i) n = (r : Running) × RunsIn (lane_at s q) c r × (r.entry.number ≡ n)

-- the number of the entry that is queued or cancelled; of a step of a context, as above
abbrev pub Gives : State → Step → ℕ → Type 0
Gives s (Queue i) n = n ≡ s.next
Gives s (Cancel i) n = (h : HasPending s i) × (h.entry.number ≡ n)
Gives s (Start q i) n = GivesIn s q 0 (DoStart i) n
Gives s (Wait q b) n = GivesIn s q 0 (DoWait b) n
Gives s (Over q b) n = GivesIn s q 0 (DoOver b) n
Gives s (WaitAll q b) n = GivesIn s q 0 (DoWaitAll b) n
Gives s (OverAll q b) n = GivesIn s q 0 (DoOverAll b) n
Gives s (Finish q i) n = GivesIn s q 0 (DoFinish i) n
Gives s (Help q h deed) n = GivesIn s q h deed n
