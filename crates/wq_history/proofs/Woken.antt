-- Each sleeper that may go on after an answer is woken; and a sleeper sleeps for something that hasn't happened yet.
use Rattle.std.proofs.Common.{◌≡◌, ◌≤◌, Bool, true, false, List, [], ◌∷◌, ◌++◌, refl, sym, ap, subst, ◌∙◌, Result, Ok}
use Rattle.std.proofs.Common.{Err}
use Rattle.wq_history.proofs.Words.{CancelStep, max_helpers, State, effect, IsSoundState, Event, CancelEvent, Row, Wake}
use Rattle.wq_history.proofs.Words.{step_of, BookView, state, IsBook, WakesBy, WakesEnough, CallError, Call, CancelSync}
use Rattle.wq_history.proofs.Words.{Close, Reply, Wrote, WroteTwo, Done, NotYet, after, WritesTwo, Answers}
use Rattle.wq_history.proofs.Histories.{state_after-none, state_after-step}
use Rattle.wq_history.proofs.LegalRows.{IsSoundState-legal}
use Rattle.wq_history.proofs.Wakes.{by_none, by_cancel, event-enough, closing-enough, unchanged-enough}
use Rattle.wq_history.specs.Calls.{WakesAfter, woken_by_done}

-- nothing is changed
unchanged : (old new : BookView) (wake : Wake) → new ≡ old → WakesEnough old new wake
unchanged old new wake same = subst (λ (b : BookView). WakesEnough old b wake) (sym same) (unchanged-enough old wake)

-- a call that is done without a row
done-enough : (old new : BookView) (call : Call) (wake : Wake) → new ≡ after old call → wake ≡ woken_by_done call
    → WakesEnough old new wake
done-enough old new Close wake is wakes =
    subst (λ (b : BookView). WakesEnough old b wake) (sym is)
    (subst (λ (k : Wake). WakesEnough old (record old { closed = true }) k) (sym wakes) (closing-enough old))
done-enough old new _ wake is wakes = unchanged old new wake is

-- a call that writes two rows: the ask leaves the state as it was, so the cancellation alone matters
two-enough : (old new : BookView) (call : Call) (ask taken : Row) (wake : Wake) → IsBook old
    → WritesTwo old call ask taken new → WakesBy new taken.event taken.yes wake → WakesEnough old new wake
two-enough old new (CancelSync i) ask taken wake book writes wakes =
    subst (λ (b : BookView). WakesEnough old b wake) (sym is) (by_said taken.yes refl)
  where
    asked : List Row
    asked = old.rows ++ (ask ∷ [])

    later : BookView
    later = record old { rows = asked ++ (taken ∷ []) }

    is : new ≡ later
    is = writes.1.4.is_new ∙ ap (λ (b : BookView). record b { rows = b.rows ++ (taken ∷ []) }) writes.1.2.is_new

    sound : IsSoundState old.wiring (state old)
    sound = IsSoundState-legal old.wiring old.rows book.legal

    same : state (record old { rows = asked }) ≡ state old
    same = state_after-none old.wiring old.rows ask (ap (λ (e : Event). step_of e ask.yes) writes.1.1)

    event : (said : Bool) → taken.yes ≡ said → step_of taken.event taken.yes ≡ step_of (CancelEvent i) said
    event said says = ap (λ (e : Event). step_of e taken.yes) writes.1.3 ∙ ap (step_of (CancelEvent i)) says

    by_said : (said : Bool) → taken.yes ≡ said → WakesEnough old later wake
    by_said true says =
        by_cancel old later refl sound wake i
        (state_after-step old.wiring asked taken (CancelStep i) (event true says)
        ∙ ap (λ (s : State). effect old.wiring s (CancelStep i)) same)
        (subst (λ (b : BookView). WakesBy b (CancelEvent i) true wake) is (rw (writes.1.3, says) at wakes))
    by_said false says =
        by_none old later wake refl (state_after-none old.wiring asked taken (event false says) ∙ same)
two-enough old new _ ask taken wake book writes wakes = absurd writes

-- each answer wakes enough
pub answer-enough : (old new : BookView) (call : Call) (answer : Result Reply CallError) (wake : Wake) → IsBook old
    → old.wiring.helpers ≤ max_helpers → Answers old call answer new → WakesAfter new call answer wake
    → WakesEnough old new wake
answer-enough old new call (Ok (Wrote row)) wake book few answers wakes =
    event-enough old new row.event row.yes row.number wake book few answers.1 wakes
answer-enough old new call (Ok (WroteTwo ask taken)) wake book few answers wakes =
    two-enough old new call ask taken wake book answers wakes
answer-enough old new call (Ok Done) wake book few answers wakes = done-enough old new call wake answers.1 wakes
answer-enough old new call (Ok NotYet) wake book few answers wakes = unchanged old new wake answers.1
answer-enough old new call (Err e) wake book few answers wakes = unchanged old new wake answers.1
