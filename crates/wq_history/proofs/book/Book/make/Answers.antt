use Rattle.std.proofs.Common.{◌≡◌, ℕ, Bool, List, subst}
use Rattle.wq_history.proofs.Words.{Step, State, Gives, Machine, Event, MayCome, AskView, Row, BookView, state, Replays}
use Rattle.wq_history.proofs.Written.{room_for_row, row-packable, HoldsBook-made}
use Rattle.wq_history.proofs.book.Book.make.Goals as goal

-- with the number of its step the event may come
comes : {m : Machine} {rows : List Row} {asks : AskView} {closed : Bool} {b : BookView} (room : ℕ) (step : Step)
    (event : Event) (said : Bool) (n : ℕ) → Replays m rows asks
    → record { wiring = m.wiring; rows = rows; room = room; closed = closed } ≡ b → Gives m.state step n
    → ((k : ℕ) → Gives (state b) step k → MayCome b.wiring b.rows event said k) → MayCome b.wiring b.rows event said n
comes room step event said n replays is gives may =
    may n (subst (λ (x : BookView). Gives (state x) step n) is
    (subst (λ (s : State). Gives s step n) replays.replay gives))

pub push-requires-clause-packable : goal.push-requires-clause-packable
push-requires-clause-packable g c =
    row-packable c.args.event c.args.yes c.in-Ok.number c.self.invariant c.self.view_is
    (comes _ c.args.step.now c.args.event c.args.yes c.in-Ok.number c.self.invariant.replays c.self.view_is
    c.in-Ok.ensures.done.gives c.requires.may) c.requires.room

pub push-requires-clause-room : goal.push-requires-clause-room
push-requires-clause-room g c =
    room_for_row c.args.event c.args.yes c.in-Ok.number c.self.invariant c.self.view_is
    (comes _ c.args.step.now c.args.event c.args.yes c.in-Ok.number c.self.invariant.replays c.self.view_is
    c.in-Ok.ensures.done.gives c.requires.may) c.requires.room

pub invariant_of-self : goal.invariant_of-self
invariant_of-self g c =
    rw (c.push.ensures.rows, c.push.ensures.room)
    (HoldsBook-made c.args.event c.args.yes c.in-Ok.number c.self.invariant c.self.view_is
    (comes _ c.args.step.now c.args.event c.args.yes c.in-Ok.number c.self.invariant.replays c.self.view_is
    c.in-Ok.ensures.done.gives c.requires.may) c.requires.room c.step.new.self c.work_after-work.result
    c.args.step.now c.in-Ok.ensures.done c.requires.event c.work_after-work.ensures.work)
