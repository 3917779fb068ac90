use Rattle.wq_core.specs.declared.step.HelpStep.TheVariants.{Finish as DoFinish}
use Rattle.wq_core.proofs.Changes.{finished}
use Rattle.wq_core.proofs.Room.{context_held}
use Rattle.wq_core.proofs.machine.Core.finish.Goals as goal

pub finish-requires : goal.finish-requires
finish-requires g c =
    let core = c.self.inside in
    context_held core.targets core.lane_of_item.items core.bare.items core.helpers core.pending core.lanes core.next
    c.args.self.now c.in-Some.number c.args.context.lane c.lane_mut.result.now c.self.invariant c.self.view_is
    c.lane_mut.ensures.value c.args.context.number (DoFinish c.args.item) c.in-Some.ensures.0

pub invariant_of-self : goal.invariant_of-self
invariant_of-self g c =
    let core = c.self.inside in
    (finished core.targets core.lane_of_item.items core.bare.items core.helpers core.pending core.lanes core.next
    c.args.self.now c.in-Some.number c.lane_mut.result.now c.finish.new.self c.self.invariant c.self.view_is
    c.finish.ensures.room c.finish.ensures.ordered c.finish.ensures.helpers c.args.context.lane
    c.args.context.number c.args.item c.in-Some.ensures c.lane_mut.ensures.value c.finish.ensures.lane).0

pub returns-clause-done : goal.returns-clause-done
returns-clause-done g c =
    let core = c.self.inside in
    (finished core.targets core.lane_of_item.items core.bare.items core.helpers core.pending core.lanes core.next
    c.args.self.now c.in-Some.number c.lane_mut.result.now c.finish.new.self c.self.invariant c.self.view_is
    c.finish.ensures.room c.finish.ensures.ordered c.finish.ensures.helpers c.args.context.lane
    c.args.context.number c.args.item c.in-Some.ensures c.lane_mut.ensures.value c.finish.ensures.lane).1
