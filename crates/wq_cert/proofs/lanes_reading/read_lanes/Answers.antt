use Rattle.std.proofs.Common.{sym}
use Rattle.wq_cert.proofs.LanesRead.{few-bare}
use Rattle.wq_cert.proofs.lanes_reading.read_lanes.Goals as goal

pub new-requires-else-begins_plan : goal.new-requires-else-begins_plan
new-requires-else-begins_plan g c =
    few-bare c.args.table.now.names c.args.groups.now (sym c.requires) c.args.view.now c.lines-else-begins_plan.result c.lines-else-begins_plan-2.result c.in_ok-bare.bare.items c.in_ok-assignment-2.assignment
    c.lines-else-begins_plan.ensures c.lines-else-begins_plan-2.ensures c.in_ok-assignment-2.ensures.assignment c.in_ok-bare.ensures
