use Rattle.std.proofs.Common.{subst}
use Rattle.wq_core.specs.State.{Lane, IsUnfinishedOn}
use Rattle.wq_core.proofs.WaitSteps.{holder-itself}
use Rattle.wq_core.proofs.machine.Core.holder.Goals as goal

pub returns-in_ok-last-clause-item : goal.returns-in_ok-last-clause-item
returns-in_ok-last-clause-item g c =
    let on_lane = subst (λ (l : Lane). IsUnfinishedOn l c.in_ok-last.last) c.lane.ensures.lane c.in_ok-last.ensures.some.0 in
    (c.items-items.ensures.machine.state.own_lane c.lane_of.result c.in_ok-last.last on_lane).0

pub returns-then-unfinished_below-clause-some : goal.returns-then-unfinished_below-clause-some
returns-then-unfinished_below-clause-some g c =
    let m = c.args.self.now in
    holder-itself m.wiring m.state c.args.whole c.args.target c.args.mark c.items-items.ensures.machine.state (c.unfinished_below.ensures.0 c.if-unfinished_below.true)
