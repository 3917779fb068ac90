use Rattle.std.proofs.Common.{subst}
use Rattle.wq_core.specs.State.{Lane}
use Rattle.wq_core.specs.Held.{IsRising}
use Rattle.wq_core.proofs.Changes.{held_lane}
use Rattle.wq_core.proofs.machine.Core.lane.Goals as goal

pub returns-clause-rising : goal.returns-clause-rising
returns-clause-rising g c =
    let core = c.self.inside in
    let is = held_lane core.targets core.lane_of_item.items core.bare.items core.helpers core.pending core.lanes core.next c.args.q c.lane.result.now c.lane.ensures in
    subst (λ (l : Lane). IsRising l.pending) is (c.self.invariant.rising c.args.q)
