use Rattle.wq_history.proofs.Written.{room_for_row, row-packable, asked-place, told-place, asks-few, HoldsBook-noted}
use Rattle.wq_history.proofs.book.Book.note.Goals as goal

pub count-requires-clause-place : goal.count-requires-clause-place
count-requires-clause-place g c =
    asked-place c.args.event c.args.yes c.args.number c.self.invariant c.self.view_is c.requires.may c.requires.room

pub count-requires-clause-some : goal.count-requires-clause-some
count-requires-clause-some g c =
    told-place c.args.event c.args.yes c.args.number c.self.invariant c.self.view_is c.requires.may c.requires.room

pub count-requires-clause-few : goal.count-requires-clause-few
count-requires-clause-few g c =
    asks-few c.args.event c.args.yes c.args.number c.self.invariant c.self.view_is c.requires.may c.requires.room

pub push-requires-clause-packable : goal.push-requires-clause-packable
push-requires-clause-packable g c =
    row-packable c.args.event c.args.yes c.args.number c.self.invariant c.self.view_is c.requires.may c.requires.room

pub push-requires-clause-room : goal.push-requires-clause-room
push-requires-clause-room g c =
    room_for_row c.args.event c.args.yes c.args.number c.self.invariant c.self.view_is c.requires.may c.requires.room

pub invariant_of-self : goal.invariant_of-self
invariant_of-self g c =
    rw (c.push.ensures.rows, c.push.ensures.room, c.count.ensures)
    (HoldsBook-noted c.args.event c.args.yes c.args.number c.self.invariant c.self.view_is c.requires.may
    c.requires.room c.requires.event)
