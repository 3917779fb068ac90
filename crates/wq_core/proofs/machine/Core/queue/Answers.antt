use Rattle.wq_core.proofs.Changes.{queued}
use Rattle.wq_core.proofs.Room.{room_left}
use Rattle.wq_core.proofs.machine.Core.queue.Goals as goal

pub queue-requires : goal.queue-requires
queue-requires g c =
    let core = c.self.inside in
    room_left core.targets core.lane_of_item.items core.bare.items core.helpers core.pending core.lanes core.next c.args.self.now c.in-Some.number c.lane_of-q.result c.lane_mut.result.now c.self.invariant c.self.view_is c.lane_mut.ensures.value c.args.item c.lane_of-q.ensures.lane c.lane_of-q.ensures.within c.in-Some.ensures

pub invariant_of-self : goal.invariant_of-self
invariant_of-self g c =
    let core = c.self.inside in
    rw c.note.ensures (queued core.targets core.lane_of_item.items core.bare.items core.helpers core.pending core.lanes core.next c.args.self.now c.in-Some.number c.lane_mut.result.now c.queue.new.self c.self.invariant c.self.view_is c.queue.ensures.room c.queue.ensures.ordered c.queue.ensures.helpers c.lane_of-q.result c.args.item c.lane_of-q.ensures.lane c.in-Some.ensures c.if-number.false c.lane_mut.ensures.value c.queue.ensures.lane).0

pub returns-clause-done : goal.returns-clause-done
returns-clause-done g c =
    let core = c.self.inside in
    (queued core.targets core.lane_of_item.items core.bare.items core.helpers core.pending core.lanes core.next c.args.self.now c.in-Some.number c.lane_mut.result.now c.queue.new.self c.self.invariant c.self.view_is c.queue.ensures.room c.queue.ensures.ordered c.queue.ensures.helpers c.lane_of-q.result c.args.item c.lane_of-q.ensures.lane c.in-Some.ensures c.if-number.false c.lane_mut.ensures.value c.queue.ensures.lane).1
