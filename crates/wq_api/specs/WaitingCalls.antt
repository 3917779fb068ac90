-- The calls that wait: what they are refused for, and what they count in the caller's seat.
use Rattle.std.specs.Prelude.{◌≡◌, ℕ, ◌<◌, ◌≤◌, ◌⊎◌, List, Bool, true, false, Result, Ok, Err}
use Rattle.wq_items.specs.Table.{ItemWaitsBy}
use Rattle.wq_core.specs.Wiring.{Wiring, items, HasContext}
use Rattle.wq_counts.specs.declared.kind.Kind.TheVariants.{Cancel as CancelKind, Ask as AskKind, Told as ToldKind}
use Rattle.wq_counts.specs.Counting.{raised, raised_asked, raised_told, wait_kind, over_kind}
use Rattle.wq_history.specs.declared.fault.CallError.{CallError}
use Rattle.wq_history.specs.declared.fault.CallError.TheVariants.{HistoryFull, Undeclared, TooManyWaits, WrongLane}
use Rattle.wq_history.specs.declared.fault.CallError.TheVariants.{NotAsked, NoItem}
use Rattle.wq_held.specs.Locked.{SeatHasRoom, IsOnLane}
use Rattle.wq_api.specs.Refusals.{RefusesWaitOf}

-- ---- flushes and cancellations

-- `flush_work` and `cancel_work_sync` of item i, through a seat with these counts: no such item; the seat or the
-- history is full; or, after the ask, no ask of the item waits
abbrev pub RefusesFlushWork : Wiring → List ℕ → ℕ → CallError → Type 0
RefusesFlushWork w counts i NoItem = items w ≤ i
RefusesFlushWork w counts i HistoryFull = i < items w
RefusesFlushWork w counts i NotAsked = (i < items w) × SeatHasRoom counts
RefusesFlushWork w counts i _ = ⊥

-- counts after a flush that waited, or found its item idle
abbrev pub flushed : List ℕ → ℕ → Bool → List ℕ
flushed old i true = raised (raised old i AskKind true) i ToldKind true
flushed old i false = raised old i AskKind false

-- counts after a refused flush: if no ask of its item waits (65), its own ask stays
-- counted; otherwise nothing was counted
abbrev pub flush_refused : List ℕ → ℕ → CallError → List ℕ
flush_refused old i NotAsked = raised old i AskKind true
flush_refused old i _ = old

-- counts after an ask and a cancellation in one call, with these answers
abbrev pub asked_and_cancelled : List ℕ → ℕ → Bool → Bool → List ℕ
asked_and_cancelled old i waits taken = raised (raised old i AskKind waits) i CancelKind taken

-- counts after a cancellation that waits: those of the ask and of the cancellation,
-- and if the ask waits, that of its end
abbrev pub CountsCancelSync : List ℕ → List ℕ → ℕ → Bool → Type 0
CountsCancelSync old new i taken =
    (new ≡ asked_and_cancelled old i false taken)
    ⊎ (new ≡ raised (asked_and_cancelled old i true taken) i ToldKind true)

-- counts after a refused cancellation that waits: if no ask of its item waits (65), its ask and its cancellation stay
-- counted; otherwise nothing was counted
abbrev pub RefusedCancelSync : List ℕ → List ℕ → ℕ → CallError → Type 0
RefusedCancelSync old new i NotAsked = (taken : Bool) × (new ≡ asked_and_cancelled old i true taken)
RefusedCancelSync old new i _ = new ≡ old

-- ---- flushes of lanes

-- `flush_workqueue` of lane q, through a seat with these counts: no such lane; the seat or the history is full; or,
-- after the ask, no ask of the lane waits
abbrev pub RefusesFlushWorkqueue : Wiring → List ℕ → ℕ → CallError → Type 0
RefusesFlushWorkqueue w counts q WrongLane = w.lanes ≤ q
RefusesFlushWorkqueue w counts q HistoryFull = q < w.lanes
RefusesFlushWorkqueue w counts q NotAsked = (q < w.lanes) × SeatHasRoom counts
RefusesFlushWorkqueue w counts q _ = ⊥

-- counts after a flush of a lane that waited, or found its lane idle
abbrev pub lane_flushed : List ℕ → ℕ → Bool → List ℕ
lane_flushed old q true = raised_told (raised_asked old q true) q
lane_flushed old q false = raised_asked old q false

-- counts after a refused flush of a lane: if no ask of the lane waits (65), its own
-- ask stays counted; otherwise nothing was counted
abbrev pub lane_flush_refused : List ℕ → ℕ → CallError → List ℕ
lane_flush_refused old q NotAsked = raised_asked old q true
lane_flush_refused old q _ = old

-- ---- waits of contexts, for an item or for its whole lane

-- some item of lane q declares such a flush of item b, alone or of its whole lane
abbrev pub IsDeclaredOn : Wiring → ℕ → Bool → ℕ → Type 0
IsDeclaredOn w q whole b = (i : ℕ) × IsOnLane w q i × ItemWaitsBy w.waits whole i b

-- some item of lane q doesn't
abbrev pub IsUndeclaredOn : Wiring → ℕ → Bool → ℕ → Type 0
IsUndeclaredOn w q whole b = (i : ℕ) × IsOnLane w q i × (¬ ItemWaitsBy w.waits whole i b)

-- which item a context of lane q runs, by the answer to a wait of this kind for item b: one that declares such a flush,
-- if the wait began, or if too many were made (63); one that doesn't, if it is undeclared (62)
abbrev pub HasWaiter : Wiring → ℕ → Bool → ℕ → Result Bool CallError → Type 0
HasWaiter w q whole b (Ok unfinished) = IsDeclaredOn w q whole b
HasWaiter w q whole b (Err TooManyWaits) = IsDeclaredOn w q whole b
HasWaiter w q whole b (Err Undeclared) = IsUndeclaredOn w q whole b
HasWaiter w q whole b (Err e) = Unit {0}

-- counts after a wait of this kind that is over, with this answer
abbrev pub waited_for : List ℕ → Bool → ℕ → Bool → List ℕ
waited_for old whole b unfinished = raised (raised old b (wait_kind whole) unfinished) b (over_kind whole) true

-- counts after a refused wait of this kind of a context that exists if `there` says so: if it no longer waits (64), its
-- wait stays counted; otherwise nothing was counted
abbrev pub RefusedWaitOf : Type 0 → List ℕ → List ℕ → Bool → ℕ → CallError → Type 0
RefusedWaitOf there old new whole b WrongLane =
    (new ≡ old) ⊎ (there × (unfinished : Bool) × (new ≡ raised old b (wait_kind whole) unfinished))
RefusedWaitOf there old new whole b _ = new ≡ old

-- the same of lane q's rescuer
abbrev pub RefusedWaitFor : Wiring → List ℕ → List ℕ → ℕ → Bool → ℕ → CallError → Type 0
RefusedWaitFor w old new q whole b e = RefusedWaitOf (q < w.lanes) old new whole b e

-- the same of context c of lane q
abbrev pub RefusedWaitIn : Wiring → List ℕ → List ℕ → ℕ → ℕ → Bool → ℕ → CallError → Type 0
RefusedWaitIn w old new q c whole b e = RefusedWaitOf (HasContext w q c) old new whole b e

-- ---- waits of helpers

-- lane q has a context h, which is one of its helpers
abbrev pub IsHelper : Wiring → ℕ → ℕ → Type 0
IsHelper w q h = (0 < h) × HasContext w q h

-- `help_wait_for` or `help_wait_all_for` of helper h of lane q, through a seat with these counts: no such helper, or it
-- can't make this step; the seat is full; what it runs declares no such flush, or has made as many waits as it declares
abbrev pub RefusesHelpWaitFor : Wiring → List ℕ → ℕ → ℕ → CallError → Type 0
RefusesHelpWaitFor w counts q h e = RefusesWaitOf (IsHelper w q h) counts e

-- counts after such a refusal: if the helper no longer waits (64), its wait stays
-- counted; otherwise nothing was counted
abbrev pub RefusedHelpWaitFor : Wiring → List ℕ → List ℕ → ℕ → ℕ → Bool → ℕ → CallError → Type 0
RefusedHelpWaitFor w old new q h whole b e = RefusedWaitOf (IsHelper w q h) old new whole b e
