use Rattle.wq_core.specs.Rules.{over_deed}
use Rattle.wq_core.proofs.Changes.{over}
use Rattle.wq_core.proofs.Room.{context_held}
use Rattle.wq_core.proofs.machine.Core.over.Goals as goal

pub over-requires : goal.over-requires
over-requires g c =
    let core = c.self.inside in
    context_held core.targets core.lane_of_item.items core.bare.items core.helpers core.pending core.lanes core.next
    c.args.self.now c.in-Some.number c.args.context.lane c.lane_mut.result.now c.self.invariant c.self.view_is
    c.lane_mut.ensures.value c.args.context.number (over_deed c.args.whole c.args.target) c.in-Some.ensures.0

pub invariant_of-self : goal.invariant_of-self
invariant_of-self g c =
    let core = c.self.inside in
    (over core.targets core.lane_of_item.items core.bare.items core.helpers core.pending core.lanes core.next
    c.args.self.now c.in-Some.number c.lane_mut.result.now c.over.new.self c.self.invariant c.self.view_is
    c.over.ensures.room c.over.ensures.ordered c.over.ensures.helpers c.args.context.lane c.args.context.number
    c.args.whole c.args.target c.in-Some.ensures c.lane_mut.ensures.value c.over.ensures.lane).0

pub returns-clause-done : goal.returns-clause-done
returns-clause-done g c =
    let core = c.self.inside in
    (over core.targets core.lane_of_item.items core.bare.items core.helpers core.pending core.lanes core.next
    c.args.self.now c.in-Some.number c.lane_mut.result.now c.over.new.self c.self.invariant c.self.view_is
    c.over.ensures.room c.over.ensures.ordered c.over.ensures.helpers c.args.context.lane c.args.context.number
    c.args.whole c.args.target c.in-Some.ensures c.lane_mut.ensures.value c.over.ensures.lane).1
