use Rattle.std.proofs.Common.{ap, ◌∙◌}
use Rattle.wq_core.specs.Wiring.{lane_of}
use Rattle.wq_hang.proofs.LaneItems.{item_lanes-more}
use Rattle.wq_hang.proofs.on_lanes.lanes_of_items.Goals as goal

pub loop-i-preserved : goal.loop-i-preserved
loop-i-preserved g c =
    let w = c.args.waits.now in
    item_lanes-more w c.loop-i.i c.loop-i.lanes.items c.push.new.self.items c.get.result c.loop-i.invariant c.in_ok-push.ensures.items (c.get.ensures ∙ c.lane_of.ensures.lane ∙ ap (lane_of w) c.new.ensures)
