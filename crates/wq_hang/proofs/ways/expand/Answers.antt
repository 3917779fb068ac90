use Rattle.std.proofs.Common.{List, length, take, ap, sym, subst, ◌∙◌}
use Rattle.std.specs.Prelude.{Contains}
use Rattle.wq_items.specs.declared.target.Target.{Target}
use Rattle.wq_core.specs.Wiring.{declared_by}
use Rattle.wq_hang.specs.Search.{Reach}
use Rattle.wq_hang.proofs.Declared.{declared-target}
use Rattle.wq_hang.proofs.Sizes.{AsLarge-follows_below}
use Rattle.wq_hang.proofs.ways.expand.Goals as goal

pub lead_on-requires-clause-target : goal.lead_on-requires-clause-target
lead_on-requires-clause-target g c =
    let t : Target = c.flush-item.result in
    let here : Contains c.flushes-flush-items.result.now t =
    (c.loop-flush.flush-index, c.loop-flush-test.true, sym c.flush-item.is) in
    declared-target c.args.waits.now c.args.item t c.items-items.ensures.wiring
    (subst (λ (l : List Target). Contains l t) c.flushes-flush-items.ensures here)

pub lead_on-requires-clause-one_each : goal.lead_on-requires-clause-one_each
lead_on-requires-clause-one_each g c =
    let w = c.args.waits.now in
    let large = AsLarge-follows_below w c.args.on.now c.args.limit c.args.item c.cost-cost.result
    (take c.loop-flush.flush-index (declared_by w c.args.item)) c.args.search.now in
    ap (λ (r : Reach). length r.costs) c.loop-flush.invariant ∙ large.one_each ∙ c.requires.one_each

pub lead_on-requires-clause-by_each : goal.lead_on-requires-clause-by_each
lead_on-requires-clause-by_each g c =
    let w = c.args.waits.now in
    let large = AsLarge-follows_below w c.args.on.now c.args.limit c.args.item c.cost-cost.result
    (take c.loop-flush.flush-index (declared_by w c.args.item)) c.args.search.now in
    ap (λ (r : Reach). length r.by) c.loop-flush.invariant ∙ large.by_each ∙ c.requires.by_each

pub lead_on-requires-clause-lanes_each : goal.lead_on-requires-clause-lanes_each
lead_on-requires-clause-lanes_each g c =
    let w = c.args.waits.now in
    let large = AsLarge-follows_below w c.args.on.now c.args.limit c.args.item c.cost-cost.result
    (take c.loop-flush.flush-index (declared_by w c.args.item)) c.args.search.now in
    ap (λ (r : Reach). length r.lane_costs) c.loop-flush.invariant ∙ large.lanes_each ∙ c.requires.lanes_each
