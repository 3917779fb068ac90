-- Calls through a seat: what a caller can know of its call, what its seat counts, and what the call comes to under the
-- lock. What the book answers is said by Answers of wq_history.
use Rattle.std.specs.Prelude.{◌≡◌, ℕ, ◌<◌, ◌≤◌, ◌⊎◌, List, sum, Bool, true, false, Result, Ok, Err, IsTrue}
use Rattle.wq_core.specs.Wiring.{Wiring, items, HasContext}
use Rattle.wq_counts.specs.Counting.{noted}
use Rattle.wq_history.specs.declared.asking.Subject.TheVariants.{Item as OfItem}
use Rattle.wq_history.specs.declared.call.Call.{Call}
use Rattle.wq_history.specs.declared.call.Call.TheVariants.{Queue, Cancel, Ask, CancelSync, Start, Wait, Close, Drain}
use Rattle.wq_history.specs.declared.call.Reply.{Reply}
use Rattle.wq_history.specs.declared.call.Reply.TheVariants.{Wrote, WroteTwo, Done, NotYet}
use Rattle.wq_history.specs.declared.fault.CallError.{CallError}
use Rattle.wq_history.specs.declared.fault.CallError.TheVariants.{HistoryFull, WrongLane, NoItem}
use Rattle.wq_history.specs.declared.sleepers.Sleepers.{Sleepers}
use Rattle.wq_history.specs.declared.sleepers.Wake.{Wake}
use Rattle.wq_history.specs.Events.{subject_in}
use Rattle.wq_history.specs.History.{IsThere}
use Rattle.wq_history.specs.Book.{BookView, IsBook}
use Rattle.wq_history.specs.Calls.{Answers, IsEarly, WakesAfter, sleepers_of}
use Rattle.wq_held.specs.declared.turn.Turn.{Turn}
use Rattle.wq_held.specs.declared.turn.Turn.TheVariants.{Answers as Answered, Sleeps}
use Rattle.wq_held.specs.Locked.{HeldView, SeatHasRoom, seat_rows}

-- ---- what a caller can know

-- what a call names is there: its item, its lane or its context. (What a wait is for needn't be: then it is
-- undeclared.)
abbrev pub IsNamed : Wiring → Call → Type 0
IsNamed w (Queue i) = i < items w
IsNamed w (Cancel i) = i < items w
IsNamed w (Ask x) = IsThere w x
IsNamed w (CancelSync i) = i < items w
IsNamed w (Wait c f) = HasContext w c.lane c.number
IsNamed w _ = Unit {0}

-- the refusal of a call that names what isn't there
abbrev pub missing : Call → CallError
missing (Queue i) = NoItem
missing (Cancel i) = NoItem
missing (Ask (OfItem i)) = NoItem
missing (CancelSync i) = NoItem
missing _ = WrongLane

-- a call that a full seat refuses: one that begins something, and writes a row
abbrev pub needs_room : Call → Bool
needs_room (Queue i) = true
needs_room (Cancel i) = true
needs_room (Ask x) = true
needs_room (CancelSync i) = true
needs_room (Wait c f) = true
needs_room _ = false

-- its caller can know that a call is refused: it names what isn't there; or else the seat, with these counts, is full
-- (60)
abbrev pub IsBarred : Wiring → List ℕ → Call → CallError → Type 0
IsBarred w counts call e = ((¬ IsNamed w call) × (e ≡ missing call))
    ⊎ (IsNamed w call × IsTrue (needs_room call) × (seat_rows ≤ sum counts) × (e ≡ HistoryFull))

-- neither is so
abbrev pub IsAdmitted : Wiring → List ℕ → Call → Type 0
IsAdmitted w counts call = IsNamed w call × (IsTrue (needs_room call) → SeatHasRoom counts)

-- ---- what a seat counts

-- the counts of the caller's seat after such an answer: each row is counted, but that of a start
abbrev pub counts_after : List ℕ → Result Reply CallError → List ℕ
counts_after counts (Ok (Wrote row)) = noted counts row
counts_after counts (Ok (WroteTwo ask taken)) = noted (noted counts ask) taken
counts_after counts (Ok Done) = counts
counts_after counts (Ok NotYet) = counts
counts_after counts (Err e) = counts

-- the calls of which a seat counts nothing, whatever is answered: a start, the closing and a drain
abbrev pub IsUncounted : Call → Type 0
IsUncounted (Start c) = Unit {0}
IsUncounted Close = Unit {0}
IsUncounted Drain = Unit {0}
IsUncounted _ = ⊥

-- ---- the book's answer

-- the book answered so, and this is the book after
abbrev pub WasAnswered : BookView → Call → Result Reply CallError → Type 0
WasAnswered b call answer = (old : BookView) × IsBook old × Answers old call answer b

-- what the rows of an answer are about is there
abbrev pub AreThere : Wiring → Result Reply CallError → Type 0
AreThere w (Ok (Wrote row)) = IsThere w (subject_in row.event)
AreThere w (Ok (WroteTwo ask taken)) = IsThere w (subject_in ask.event) × IsThere w (subject_in taken.event)
AreThere w _ = Unit {0}

-- ---- under the lock

-- an answer for whoever called: all but that it is too early
abbrev pub IsSettled : Result Reply CallError → Type 0
IsSettled (Ok NotYet) = ⊥
IsSettled _ = Unit {0}

-- what a call comes to that the book answered so, if this is the book after: its caller sleeps if it is too early
abbrev pub BecomesTurn : BookView → Call → Result Reply CallError → Turn (Result Reply CallError) → Type 0
BecomesTurn b call answer (Answered same wake) = (same ≡ answer) × IsSettled answer × WakesAfter b call answer wake
BecomesTurn b call answer (Sleeps among) = (answer ≡ Ok NotYet) × (among ≡ sleepers_of b.wiring call)

-- a call is answered: so the book answers, no seat is made, the answer is counted in the caller's seat, which had these
-- counts, and these are woken
pub record IsTurn (old : HeldView) (counts : List ℕ) (call : Call) (answer : Result Reply CallError) (wake : Wake)
    (new : HeldView) (left : List ℕ) : Type 0 where
  pub answers : Answers old.book call answer new.book
  pub settled : IsSettled answer
  pub seats : new.seats ≡ old.seats
  pub counted : left ≡ counts_after counts answer
  pub wakes : WakesAfter new.book call answer wake

-- a call is too early: nothing is changed, nothing is counted, and its caller sleeps among these
pub record IsPutOff (old : HeldView) (counts : List ℕ) (call : Call) (among : Sleepers)
    (new : HeldView) (left : List ℕ) : Type 0 where
  pub early : IsEarly old.book call
  pub unchanged : new ≡ old
  pub uncounted : left ≡ counts
  pub sleeps : among ≡ sleepers_of old.book.wiring call

-- what a call through a seat with these counts comes to: what the lock protects, and the counts, before and after
abbrev pub TakesTurn : HeldView → List ℕ → Call → Turn (Result Reply CallError) → HeldView → List ℕ → Type 0
TakesTurn old counts call (Answered answer wake) new left = IsTurn old counts call answer wake new left
TakesTurn old counts call (Sleeps among) new left = IsPutOff old counts call among new left
