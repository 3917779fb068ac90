use Rattle.wq_core.specs.declared.step.HelpStep.TheVariants.{Start as DoStart}
use Rattle.wq_core.proofs.Changes.{started}
use Rattle.wq_core.proofs.Room.{start_pending, pending_once, pending_rising, start_numbered, context_held}
use Rattle.wq_core.proofs.machine.Core.start.Goals as goal

pub start-requires-clause-context : goal.start-requires-clause-context
start-requires-clause-context g c =
    let core = c.self.inside in
    context_held core.targets core.lane_of_item.items core.bare.items core.helpers core.pending core.lanes core.next
    c.args.self.now c.in-Some.number c.args.context.lane c.lane_mut.result.now c.self.invariant c.self.view_is
    c.lane_mut.ensures.value c.args.context.number (DoStart c.args.item) c.in-Some.ensures.0

pub start-requires-clause-pending : goal.start-requires-clause-pending
start-requires-clause-pending g c =
    let core = c.self.inside in
    start_pending core.targets core.lane_of_item.items core.bare.items core.helpers core.pending core.lanes
    core.next c.args.self.now c.in-Some.number c.args.context.lane c.lane_mut.result.now c.self.invariant
    c.self.view_is c.lane_mut.ensures.value c.args.context.number c.args.item c.in-Some.ensures

pub start-requires-clause-once : goal.start-requires-clause-once
start-requires-clause-once g c =
    let core = c.self.inside in
    pending_once core.targets core.lane_of_item.items core.bare.items core.helpers core.pending core.lanes core.next
    c.args.self.now c.in-Some.number c.args.context.lane c.lane_mut.result.now c.self.invariant c.self.view_is
    c.lane_mut.ensures.value

pub start-requires-clause-rising : goal.start-requires-clause-rising
start-requires-clause-rising g c =
    let core = c.self.inside in
    pending_rising core.targets core.lane_of_item.items core.bare.items core.helpers core.pending core.lanes
    core.next c.args.self.now c.in-Some.number c.args.context.lane c.lane_mut.result.now c.self.invariant
    c.self.view_is c.lane_mut.ensures.value

pub forget-requires : goal.forget-requires
forget-requires g c =
    let core = c.self.inside in
    start_numbered core.targets core.lane_of_item.items core.bare.items core.helpers core.pending core.lanes
    core.next c.args.self.now c.in-Some.number c.args.context.lane c.lane_mut.result.now c.self.invariant
    c.self.view_is c.lane_mut.ensures.value c.args.context.number c.args.item c.in-Some.ensures

pub invariant_of-self : goal.invariant_of-self
invariant_of-self g c =
    let core = c.self.inside in
    rw c.forget.ensures (started core.targets core.lane_of_item.items core.bare.items core.helpers core.pending
    core.lanes core.next c.args.self.now c.in-Some.number c.lane_mut.result.now c.start.new.self c.self.invariant
    c.self.view_is c.start.ensures.room c.start.ensures.ordered c.start.ensures.helpers c.args.context.lane
    c.args.context.number c.args.item c.in-Some.ensures c.lane_mut.ensures.value c.start.ensures.lane).0

pub returns-clause-done : goal.returns-clause-done
returns-clause-done g c =
    let core = c.self.inside in
    (started core.targets core.lane_of_item.items core.bare.items core.helpers core.pending core.lanes core.next
    c.args.self.now c.in-Some.number c.lane_mut.result.now c.start.new.self c.self.invariant c.self.view_is
    c.start.ensures.room c.start.ensures.ordered c.start.ensures.helpers c.args.context.lane c.args.context.number
    c.args.item c.in-Some.ensures c.lane_mut.ensures.value c.start.ensures.lane).1
