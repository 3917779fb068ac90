-- Receipts: what contracts see of the values that only a call under the lock makes.
use Rattle.std.specs.Prelude.{◌≡◌, ℕ, List, Option, Result}
use Rattle.wq_core.specs.declared.step.Context.{Context}
use Rattle.wq_history.specs.declared.call.Call.{Call}
use Rattle.wq_history.specs.declared.call.Reply.{Reply}
use Rattle.wq_history.specs.declared.fault.CallError.{CallError}
use Rattle.wq_held.specs.declared.fault.CloseWhy.{CloseWhy}
use Rattle.wq_held.specs.declared.turn.Turn.{Turn}
use Rattle.wq_held.specs.declared.turn.Turn.TheVariants.{Answers, Sleeps}
use Rattle.wq_held.specs.Locked.{HeldView}
use Rattle.wq_held.specs.Calls.{IsTurn, IsPutOff}

-- a call, and what was answered to it
pub record Answered : Type 0 where
  pub call : Call
  pub answer : Result Reply CallError

-- what this context was given to start: an entry of the item, or nothing
pub record Next : Type 0 where
  pub context : Context
  pub item : Option ℕ

-- so many seats, and why they didn't close the runtime
pub record Unclosed : Type 0 where
  pub seats : ℕ
  pub why : CloseWhy

-- what a call comes to of which no seat counts anything, whatever counts a seat has
abbrev pub TakesTurnOf : HeldView → Call → Turn Answered → HeldView → Type 0
TakesTurnOf old call (Answers answered wake) new = (answered.call ≡ call)
    × ((counts : List ℕ) → IsTurn old counts call answered.answer wake new counts)
TakesTurnOf old call (Sleeps among) new = (counts : List ℕ) → IsPutOff old counts call among new counts

-- the same comes of a call, and what is answered shows it
abbrev pub ShowsTurn : Call → Turn (Result Reply CallError) → Turn Answered → Type 0
ShowsTurn call (Answers answer wake) shown = shown ≡ Answers (record { call = call; answer = answer }) wake
ShowsTurn call (Sleeps among) shown = shown ≡ Sleeps among
