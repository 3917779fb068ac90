use Rattle.wq_core.specs.Rules.{wait_deed}
use Rattle.wq_core.proofs.Changes.{waited}
use Rattle.wq_core.proofs.Room.{wait_fits, context_held}
use Rattle.wq_core.proofs.machine.Core.wait.Goals as goal

pub wait-requires-clause-context : goal.wait-requires-clause-context
wait-requires-clause-context g c =
    let core = c.self.inside in
    context_held core.targets core.lane_of_item.items core.bare.items core.helpers core.pending core.lanes core.next
    c.args.self.now c.in-Some.number c.args.context.lane c.lane_mut.result.now c.self.invariant c.self.view_is
    c.lane_mut.ensures.value c.args.context.number (wait_deed c.args.whole c.args.target) c.in-Some.ensures.0

pub wait-requires-clause-made : goal.wait-requires-clause-made
wait-requires-clause-made g c =
    let core = c.self.inside in
    wait_fits core.targets core.lane_of_item.items core.bare.items core.helpers core.pending core.lanes core.next
    c.args.self.now c.in-Some.number c.args.context.lane c.lane_mut.result.now c.self.invariant c.self.view_is
    c.lane_mut.ensures.value c.args.context.number c.args.whole c.args.target c.in-Some.ensures

pub invariant_of-self : goal.invariant_of-self
invariant_of-self g c =
    let core = c.self.inside in
    (waited core.targets core.lane_of_item.items core.bare.items core.helpers core.pending core.lanes core.next
    c.args.self.now c.in-Some.number c.lane_mut.result.now c.wait.new.self c.self.invariant c.self.view_is
    c.wait.ensures.room c.wait.ensures.ordered c.wait.ensures.helpers c.args.context.lane c.args.context.number
    c.args.whole c.args.target c.in-Some.ensures c.lane_mut.ensures.value c.wait.ensures.lane).0

pub returns-clause-done : goal.returns-clause-done
returns-clause-done g c =
    let core = c.self.inside in
    (waited core.targets core.lane_of_item.items core.bare.items core.helpers core.pending core.lanes core.next
    c.args.self.now c.in-Some.number c.lane_mut.result.now c.wait.new.self c.self.invariant c.self.view_is
    c.wait.ensures.room c.wait.ensures.ordered c.wait.ensures.helpers c.args.context.lane c.args.context.number
    c.args.whole c.args.target c.in-Some.ensures c.lane_mut.ensures.value c.wait.ensures.lane).1
