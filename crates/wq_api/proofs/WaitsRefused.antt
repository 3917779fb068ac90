-- Waits of a rescuer and of a helper: what they say, from what is said of a context.
use Rattle.std.proofs.Common.{◌≡◌, ℕ, ◌<◌, inl, inr, Bool, List, refl, arith, Result, Ok, Err, IfOk, IfErr}
use Rattle.wq_history.proofs.Words.{Wiring, items, HasContext}
use Rattle.wq_held.proofs.Words.{CallError, HistoryFull, Undeclared, TooManyWaits, WrongLane}
use Rattle.wq_held.specs.Locked.{SeatHasRoom}
use Rattle.wq_api.specs.Refusals.{RefusesWaitOf, RefusesWaitFor, RefusesWaitIn}
use Rattle.wq_api.specs.WaitingCalls.{IsHelper, waited_for, RefusedWaitOf, RefusedWaitFor, RefusedWaitIn}
use Rattle.wq_api.specs.WaitingCalls.{RefusesHelpWaitFor, RefusedHelpWaitFor}

-- the rescuer of a lane that exists is one of its contexts
pub rescuer_context : (w : Wiring) (q : ℕ) → q < w.lanes → HasContext w q 0
rescuer_context w q lane = (lane, omega arith)

-- what is said of a context that exists, if that is said by other words
module _ (there other : Type 0) (to : there → other) (from : other → there) where
  refuses : (counts : List ℕ) (e : CallError) → RefusesWaitOf there counts e → RefusesWaitOf other counts e
  refuses counts WrongLane (inl missing) = inl (λ has. missing (from has))
  refuses counts WrongLane (inr room) = inr room
  refuses counts HistoryFull why = (to why.0, why.1)
  refuses counts Undeclared why = (to why.0, why.1)
  refuses counts TooManyWaits why = (to why.0, why.1)
  refuses counts _ why = why

  refused : (old new : List ℕ) (whole : Bool) (target : ℕ) (e : CallError) → RefusedWaitOf there old new whole target e
      → RefusedWaitOf other old new whole target e
  refused old new whole target WrongLane (inl same) = inl same
  refused old new whole target WrongLane (inr waits) = inr (to waits.0, waits.1, waits.2)
  refused old new whole target _ same = same

  -- what a wait answers
  waited : (w : Wiring) (old new : List ℕ) (whole : Bool) (target : ℕ) (r : Result Bool CallError)
      → IfOk r (λ said. there × (target < items w) × SeatHasRoom old × (new ≡ waited_for old whole target said))
      → IfOk r (λ said. other × (target < items w) × SeatHasRoom old × (new ≡ waited_for old whole target said))
  waited w old new whole target (Ok said) known = (to known.0, known.1, known.2, known.3)
  waited w old new whole target (Err e) known = known

  refusal : (old new : List ℕ) (whole : Bool) (target : ℕ) (r : Result Bool CallError)
      → IfErr r (λ e. RefusesWaitOf there old e × RefusedWaitOf there old new whole target e)
      → IfErr r (λ e. RefusesWaitOf other old e × RefusedWaitOf other old new whole target e)
  refusal old new whole target (Ok said) why = why
  refusal old new whole target (Err e) why = (refuses old e why.0, refused old new whole target e why.1)

-- what a wait of a rescuer, and of a helper, answers
module _ (w : Wiring) (q : ℕ) (old new : List ℕ) (whole : Bool) (target : ℕ) (r : Result Bool CallError) where
  pub rescuer_waited : IfOk r (λ said. HasContext w q 0 × (target < items w) × SeatHasRoom old
      × (new ≡ waited_for old whole target said))
      → IfOk r (λ said. (q < w.lanes) × (target < items w) × SeatHasRoom old
      × (new ≡ waited_for old whole target said))
  rescuer_waited =
      waited (HasContext w q 0) (q < w.lanes) (λ has. has.0) (rescuer_context w q) w old new whole target r

  pub rescuer_refused : IfErr r (λ e. RefusesWaitIn w old q 0 e × RefusedWaitIn w old new q 0 whole target e)
      → IfErr r (λ e. RefusesWaitFor w old q e × RefusedWaitFor w old new q whole target e)
  rescuer_refused =
      refusal (HasContext w q 0) (q < w.lanes) (λ has. has.0) (rescuer_context w q) old new whole target r

  pub helper_waited : (h : ℕ) → 0 < h → IfOk r (λ said. HasContext w q h × (target < items w) × SeatHasRoom old
      × (new ≡ waited_for old whole target said))
      → IfOk r (λ said. IsHelper w q h × (target < items w) × SeatHasRoom old
      × (new ≡ waited_for old whole target said))
  helper_waited h some =
      waited (HasContext w q h) (IsHelper w q h) (λ has. (some, has)) (λ is. is.1) w old new whole target r

  pub helper_refused : (h : ℕ) → 0 < h
      → IfErr r (λ e. RefusesWaitIn w old q h e × RefusedWaitIn w old new q h whole target e)
      → IfErr r (λ e. RefusesHelpWaitFor w old q h e × RefusedHelpWaitFor w old new q h whole target e)
  helper_refused h some =
      refusal (HasContext w q h) (IsHelper w q h) (λ has. (some, has)) (λ is. is.1) old new whole target r

-- there is no helper 0
pub no_helper_refused : (w : Wiring) (counts : List ℕ) (q h : ℕ) (whole : Bool) (target : ℕ) → h ≡ 0
    → RefusesHelpWaitFor w counts q h WrongLane × RefusedHelpWaitFor w counts counts q h whole target WrongLane
no_helper_refused w counts q h whole target none = (inl (λ there. omega (arith, there.0, none)), inl refl)

pub ruleset of_rescuer = (rescuer_context, rescuer_waited)

pub ruleset of_helper = (helper_waited, helper_refused, no_helper_refused)
