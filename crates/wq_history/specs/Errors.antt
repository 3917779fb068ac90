-- The errors of calls, and of the named calls of a book.
use Rattle.std.specs.Prelude.{ℕ, Option, Some, None}
use Rattle.wq_history.specs.declared.fault.BookError.{BookError}
use Rattle.wq_history.specs.declared.fault.BookError.TheVariants.{HistoryFull as BookFull, Closed as BookClosed}
use Rattle.wq_history.specs.declared.fault.BookError.TheVariants.{Undeclared as BookUndeclared}
use Rattle.wq_history.specs.declared.fault.BookError.TheVariants.{TooManyWaits as BookTooManyWaits}
use Rattle.wq_history.specs.declared.fault.BookError.TheVariants.{WrongLane as BookWrongLane, NoItem as BookNoItem}
use Rattle.wq_history.specs.declared.fault.CallError.{CallError}
use Rattle.wq_history.specs.declared.fault.CallError.TheVariants.{HistoryFull, Closed, Undeclared, TooManyWaits}
use Rattle.wq_history.specs.declared.fault.CallError.TheVariants.{WrongLane, NotAsked, NoItem}

-- the number of a refusal
abbrev pub call_code : CallError → ℕ
call_code HistoryFull = 60
call_code Closed = 61
call_code Undeclared = 62
call_code TooManyWaits = 63
call_code WrongLane = 64
call_code NotAsked = 65
call_code NoItem = 66

-- the same refusal, as one of a call; making a book isn't a call of a book
abbrev pub call_error : BookError → Option CallError
call_error BookFull = Some HistoryFull
call_error BookClosed = Some Closed
call_error BookUndeclared = Some Undeclared
call_error BookTooManyWaits = Some TooManyWaits
call_error BookWrongLane = Some WrongLane
call_error BookNoItem = Some NoItem
call_error _ = None

-- the refusal is one of a named call
abbrev pub IsOfBook : CallError → Type 0
IsOfBook NotAsked = ⊥
IsOfBook _ = Unit {0}
