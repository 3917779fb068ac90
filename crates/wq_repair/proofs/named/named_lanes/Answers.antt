use Rattle.std.proofs.Common.{◌≡◌, ℕ, ◌<◌, sym, ◌∙◌, arith}
use Rattle.wq_repair.specs.Changes.{lane_in}
use Rattle.wq_repair.specs.Marks.{IsMarked}
use Rattle.wq_repair.proofs.Marks.{Marks-one_more}
use Rattle.wq_repair.proofs.LaneReads.{lane-read, lane-within}
use Rattle.wq_repair.proofs.named.named_lanes.Goals as goal

pub loop-group-preserved : goal.loop-group-preserved
loop-group-preserved g c =
    let ws = c.args.workqueues.now in
    let i = c.loop-group.group in
    let j = c.from-in-loop-group.result in
    let here : lane_in ws i ≡ c.lane-lane.result =
    lane-read ws.assignment c.assignment-in-loop-group.result.now i c.new.result c.lane-lane.result c.assignment-in-loop-group.ensures (omega (arith, c.new.ensures)) c.lane-lane.ensures in
    let same : c.lane-lane.result ≡ j = omega (arith, c.get.ensures, c.from-in-loop-group.ensures) in
    let within : lane_in ws i < ws.assignment.lanes =
    lane-within ws.assignment c.assignment.result.now i c.assignment.ensures c.lanes.ensures.within (omega (arith, c.loop-group-test.true, c.requires.one_each)) in
    Marks-one_more (λ (m q : ℕ). IsMarked c.args.named.now m × (lane_in ws m ≡ q)) ws.assignment.lanes i j c.loop-group.lanes.items (λ k is. sym is.1 ∙ here ∙ same)
    (c.if-not-is_named.false, here ∙ same) (omega (arith, within, here, same)) c.loop-group.invariant
