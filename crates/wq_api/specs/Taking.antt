-- Taking: which calls a method of a runtime makes, what its caller is told of their answers, and what its seat counts.
--
-- Each call is answered by a book that the lock may protect. Which book that was can't be said: a contract names no
-- moment at which others don't hold the lock. So what a clause says of that book is that there may be such a book.
use Rattle.std.specs.Prelude.{◌≡◌, ℕ, ◌⊎◌, List, Option, Some, None, Bool, true, false, Result, Ok, Err}
use Rattle.wq_core.specs.declared.step.Context.{Context}
use Rattle.wq_core.specs.Wiring.{Wiring}
use Rattle.wq_rows.specs.declared.event.Row.{Row}
use Rattle.wq_rows.specs.Packing.{item_in}
use Rattle.wq_history.specs.declared.asking.Subject.{Subject}
use Rattle.wq_history.specs.declared.asking.Subject.TheVariants.{Item as OfItem}
use Rattle.wq_history.specs.declared.call.Flush.{Flush}
use Rattle.wq_history.specs.declared.call.Call.{Call}
use Rattle.wq_history.specs.declared.call.Call.TheVariants.{Ask, Told, CancelSync, Start, Wait, Over, Close, Drain}
use Rattle.wq_history.specs.declared.call.Reply.{Reply}
use Rattle.wq_history.specs.declared.call.Reply.TheVariants.{Wrote, WroteTwo, Done}
use Rattle.wq_history.specs.declared.fault.CallError.{CallError}
use Rattle.wq_history.specs.declared.sleepers.Wake.{Wake}
use Rattle.wq_history.specs.Book.{BookView}
use Rattle.wq_history.specs.Calls.{Answers}
use Rattle.wq_held.specs.declared.fault.SeatError.{SeatError}
use Rattle.wq_held.specs.declared.turn.Turn.TheVariants.{Answers as Answered}
use Rattle.wq_held.specs.Locked.{HeldView, Holds}
use Rattle.wq_held.specs.Calls.{counts_after, IsBarred, IsAdmitted, IsSettled}
use Rattle.wq_held.specs.Receipts.{Answered as AnsweredCall, Next}
use Rattle.wq_api.specs.Locking.{MakesSeat}

-- context c of lane q
abbrev pub context_of : ℕ → ℕ → Context
context_of q c = record { lane = q; number = c }

-- a flush of item b, or of the whole lane of b
abbrev pub flush_of : Bool → ℕ → Flush
flush_of whole b = record { target = b; whole = whole }

-- a call that is answered by one row, unless it is refused
abbrev pub WritesOne : Call → Type 0
WritesOne (CancelSync i) = ⊥
WritesOne (Start c) = ⊥
WritesOne Close = ⊥
WritesOne Drain = ⊥
WritesOne _ = Unit {0}

-- ---- one call

-- a call is admitted, or it is barred by this
abbrev pub AdmitsOrBars : Wiring → List ℕ → Call → Result (Unit {0}) CallError → Type 0
AdmitsOrBars w counts call (Ok done) = IsAdmitted w counts call
AdmitsOrBars w counts call (Err e) = IsBarred w counts call e

-- a book that the lock of such a runtime may protect answers a call so, which isn't too early, and this is the book
-- after
pub record IsAnswered (w : Wiring) (rows : ℕ) (call : Call) (answer : Result Reply CallError) : Type 0 where
  pub old : BookView
  pub new : BookView
  pub holds : Holds w rows old
  pub answers : Answers old call answer new
  pub settled : IsSettled answer

-- a call is taken under the lock: it is answered so, and the answer is counted in the caller's seat
abbrev pub Took : Wiring → ℕ → List ℕ → Call → Result Reply CallError → List ℕ → Type 0
Took w rows counts call answer left = IsAnswered w rows call answer × (left ≡ counts_after counts answer)

-- a call comes to this: it is admitted, and taken; or it is barred, and then the lock isn't taken, and nothing counted
abbrev pub ComesTo : Wiring → ℕ → List ℕ → Call → Result Reply CallError → List ℕ → Type 0
ComesTo w rows counts call (Ok reply) left = IsAdmitted w counts call × Took w rows counts call (Ok reply) left
ComesTo w rows counts call (Err e) left = (IsBarred w counts call e × (left ≡ counts))
    ⊎ (IsAdmitted w counts call × Took w rows counts call (Err e) left)

-- a call is done, and this shows it
abbrev pub IsDoneBy : Wiring → ℕ → Call → AnsweredCall → Type 0
IsDoneBy w rows call answered =
    (answered ≡ record { call = call; answer = Ok Done }) × IsAnswered w rows call (Ok Done)

-- a runtime is destroyed: first its book is closed, and then nothing is unfinished
abbrev pub Destroys : Wiring → ℕ → Type 0
Destroys w rows = IsAnswered w rows Close (Ok Done) × IsAnswered w rows Drain (Ok Done)

-- a seat is wanted, and something that the lock of such a runtime may protect answers so
pub record IsSeated (w : Wiring) (rows : ℕ) (answer : Result (List ℕ) SeatError) : Type 0 where
  pub old : HeldView
  pub new : HeldView
  pub wake : Wake
  pub holds : Holds w rows old.book
  pub makes : MakesSeat w old (Answered answer wake) new

-- ---- what is told of the answer, of which this holds

-- the row that was written
abbrev pub GivesRow : (Result Reply CallError → Type 0) → Result Row CallError → Type 0
GivesRow P (Ok row) = P (Ok (Wrote row))
GivesRow P (Err e) = P (Err e)

-- both rows
abbrev pub GivesTwo : (Result Reply CallError → Type 0) → Result (Row × Row) CallError → Type 0
GivesTwo P (Ok rows) = P (Ok (WroteTwo rows.0 rows.1))
GivesTwo P (Err e) = P (Err e)

-- what the row says
abbrev pub GivesYes : (Result Reply CallError → Type 0) → Result Bool CallError → Type 0
GivesYes P (Ok said) = (row : Row) × (row.yes ≡ said) × P (Ok (Wrote row))
GivesYes P (Err e) = P (Err e)

-- that it was written
abbrev pub GivesDone : (Result Reply CallError → Type 0) → Result (Unit {0}) CallError → Type 0
GivesDone P (Ok done) = (row : Row) × P (Ok (Wrote row))
GivesDone P (Err e) = P (Err e)

-- the item of the row, or that there is nothing to write
abbrev pub GivesItem : (Result Reply CallError → Type 0) → Option ℕ → Type 0
GivesItem P (Some i) = (row : Row) × (item_in row.event ≡ i) × P (Ok (Wrote row))
GivesItem P None = P (Ok Done)

-- that, of this context
abbrev pub GivesNext : Context → (Result Reply CallError → Type 0) → Result Next CallError → Type 0
GivesNext c P (Ok next) = (next.context ≡ c) × GivesItem P next.item
GivesNext c P (Err e) = P (Err e)

-- ---- calls that wait: two calls

-- after an ask about this, of which the row is this: it doesn't wait, and nothing more is called or counted; or it
-- waits, and is told with the mark that is its own
abbrev pub IsTold : Wiring → ℕ → List ℕ → Subject → Row → List ℕ → Type 0
IsTold w rows counts x asked left = ((asked.yes ≡ false) × (left ≡ counts))
    ⊎ ((asked.yes ≡ true) × ((told : Row) × Took w rows counts (Told x asked.number) (Ok (Wrote told)) left))

-- it waits, and is refused when it is to be told
abbrev pub IsNotTold : Wiring → ℕ → List ℕ → Subject → Row → CallError → List ℕ → Type 0
IsNotTold w rows counts x asked e left = (asked.yes ≡ true) × Took w rows counts (Told x asked.number) (Err e) left

-- either, by what comes of the wait for its end
abbrev pub TellsOrNot : Wiring → ℕ → List ℕ → Subject → Row → Result (Unit {0}) CallError → List ℕ → Type 0
TellsOrNot w rows counts x asked (Ok done) left = IsTold w rows counts x asked left
TellsOrNot w rows counts x asked (Err e) left = IsNotTold w rows counts x asked e left

-- a flush: an ask, and then its end. The error is that of the ask, or else that of its end
abbrev pub Flushes : Wiring → ℕ → List ℕ → Subject → Result Bool CallError → List ℕ → Type 0
Flushes w rows counts x (Ok waited) left = (asked : Row) × (between : List ℕ) × (asked.yes ≡ waited)
    × ComesTo w rows counts (Ask x) (Ok (Wrote asked)) between × IsTold w rows between x asked left
Flushes w rows counts x (Err e) left = ComesTo w rows counts (Ask x) (Err e) left
    ⊎ ((asked : Row) × (between : List ℕ)
    × ComesTo w rows counts (Ask x) (Ok (Wrote asked)) between × IsNotTold w rows between x asked e left)

-- a flush whose caller isn't told whether it waited
abbrev pub FlushesSo : Wiring → ℕ → List ℕ → Subject → Result (Unit {0}) CallError → List ℕ → Type 0
FlushesSo w rows counts x (Ok done) left = (waited : Bool) × Flushes w rows counts x (Ok waited) left
FlushesSo w rows counts x (Err e) left = Flushes w rows counts x (Err e) left

-- a cancellation of item i that waits: an ask and a cancellation in one call, and then the end of the ask
abbrev pub CancelsSync : Wiring → ℕ → List ℕ → ℕ → Result Bool CallError → List ℕ → Type 0
CancelsSync w rows counts i (Ok said) left = (asked : Row) × (taken : Row) × (between : List ℕ) × (taken.yes ≡ said)
    × ComesTo w rows counts (CancelSync i) (Ok (WroteTwo asked taken)) between
    × IsTold w rows between (OfItem i) asked left
CancelsSync w rows counts i (Err e) left = ComesTo w rows counts (CancelSync i) (Err e) left
    ⊎ ((asked : Row) × (taken : Row) × (between : List ℕ)
    × ComesTo w rows counts (CancelSync i) (Ok (WroteTwo asked taken)) between
    × IsNotTold w rows between (OfItem i) asked e left)

-- a wait of what a context runs, for a flush: it begins, and then it is over
abbrev pub Waits : Wiring → ℕ → List ℕ → Context → Flush → Result Bool CallError → List ℕ → Type 0
Waits w rows counts c f (Ok unfinished) left = (began : Row) × (between : List ℕ) × (over : Row)
    × (began.yes ≡ unfinished) × ComesTo w rows counts (Wait c f) (Ok (Wrote began)) between
    × Took w rows between (Over c f) (Ok (Wrote over)) left
Waits w rows counts c f (Err e) left = ComesTo w rows counts (Wait c f) (Err e) left
    ⊎ ((began : Row) × (between : List ℕ) × ComesTo w rows counts (Wait c f) (Ok (Wrote began)) between
    × Took w rows between (Over c f) (Err e) left)
