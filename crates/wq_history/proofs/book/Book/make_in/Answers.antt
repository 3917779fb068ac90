use Rattle.std.proofs.Common.{arith, ◌∙◌}
use Rattle.wq_history.proofs.Words.{state}
use Rattle.wq_history.proofs.Deeds.{step_of-event_in, no_rows-event_in, deed_may_come}
use Rattle.wq_history.proofs.book.Book.make_in.Goals as goal

pub make-requires-clause-lawful : goal.make-requires-clause-lawful
make-requires-clause-lawful g c = rw c.of-step.ensures c.requires.lawful

pub make-requires-clause-event : goal.make-requires-clause-event
make-requires-clause-event g c =
    rw (c.event_of-event.ensures, c.of-step.ensures)
    (step_of-event_in c.args.context.now.lane c.args.context.now.number c.args.deed.now c.args.yes)

pub make-requires-clause-may : goal.make-requires-clause-may
make-requires-clause-may g c n gives =
    let b = c.args.self.now in
    rw c.event_of-event.ensures
    (deed_may_come b.wiring (state b) _ c.args.context.now.lane c.args.context.now.number c.args.deed.now c.args.yes
    n c.requires.says c.requires.lawful (rw c.of-step.ensures at gives))

pub make-requires-clause-room : goal.make-requires-clause-room
make-requires-clause-room g c =
    let none = no_rows-event_in c.args.self.now.wiring c.args.context.now.lane c.args.context.now.number
    c.args.deed.now c.args.yes in
    rw (c.event_of-event.ensures, none) (omega arith)

pub returns-clause-event : goal.returns-clause-event
returns-clause-event g c = c.make.ensures.event ∙ c.event_of-event.ensures
