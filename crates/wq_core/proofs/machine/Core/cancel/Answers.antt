use Rattle.wq_core.proofs.Changes.{cancelled}
use Rattle.wq_core.proofs.Room.{cancel_pending, pending_once, pending_rising}
use Rattle.wq_core.proofs.machine.Core.cancel.Goals as goal

pub cancel-requires-clause-pending : goal.cancel-requires-clause-pending
cancel-requires-clause-pending g c =
    let core = c.self.inside in
    cancel_pending core.targets core.lane_of_item.items core.bare.items core.helpers core.pending core.lanes core.next c.args.self.now c.in-Some.number c.lane_of-q.result c.lane_mut.result.now c.self.invariant c.self.view_is c.lane_mut.ensures.value c.args.item c.lane_of-q.ensures.lane c.in-Some.ensures.number

pub cancel-requires-clause-once : goal.cancel-requires-clause-once
cancel-requires-clause-once g c =
    let core = c.self.inside in
    pending_once core.targets core.lane_of_item.items core.bare.items core.helpers core.pending core.lanes core.next c.args.self.now c.in-Some.number c.lane_of-q.result c.lane_mut.result.now c.self.invariant c.self.view_is c.lane_mut.ensures.value

pub cancel-requires-clause-rising : goal.cancel-requires-clause-rising
cancel-requires-clause-rising g c =
    let core = c.self.inside in
    pending_rising core.targets core.lane_of_item.items core.bare.items core.helpers core.pending core.lanes core.next c.args.self.now c.in-Some.number c.lane_of-q.result c.lane_mut.result.now c.self.invariant c.self.view_is c.lane_mut.ensures.value

pub invariant_of-self : goal.invariant_of-self
invariant_of-self g c =
    let core = c.self.inside in
    rw c.forget.ensures (cancelled core.targets core.lane_of_item.items core.bare.items core.helpers core.pending core.lanes core.next c.args.self.now c.in-Some.number c.lane_mut.result.now c.cancel.new.self c.self.invariant c.self.view_is c.cancel.ensures.room c.cancel.ensures.ordered c.cancel.ensures.helpers c.lane_of-q.result c.args.item c.lane_of-q.ensures.lane c.in-Some.ensures.number c.lane_mut.ensures.value c.cancel.ensures.lane).0

pub returns-clause-done : goal.returns-clause-done
returns-clause-done g c =
    let core = c.self.inside in
    (cancelled core.targets core.lane_of_item.items core.bare.items core.helpers core.pending core.lanes core.next c.args.self.now c.in-Some.number c.lane_mut.result.now c.cancel.new.self c.self.invariant c.self.view_is c.cancel.ensures.room c.cancel.ensures.ordered c.cancel.ensures.helpers c.lane_of-q.result c.args.item c.lane_of-q.ensures.lane c.in-Some.ensures.number c.lane_mut.ensures.value c.cancel.ensures.lane).1
