use Rattle.std.proofs.Common.{◌≡◌, sym, subst, ◌∙◌, arith}
use Rattle.wq_repair.specs.Changes.{lane_in}
use Rattle.wq_repair.specs.Marks.{IsMarked}
use Rattle.wq_repair.proofs.LaneReads.{lane-read}
use Rattle.wq_repair.proofs.PlacedSteps.{AreLanesOfRanks-set}
use Rattle.wq_repair.proofs.placing.lanes_by_rank.Goals as goal

pub loop-group-preserved : goal.loop-group-preserved
loop-group-preserved g c =
    let old = c.args.old.now in
    let named = c.args.named.now in
    let i = c.loop-group.group in
    let lane = c.lane-lane.result in
    let here : lane_in old i ≡ lane =
    lane-read old.assignment c.assignment-in-loop-group.result.now i c.new.result lane
    c.assignment-in-loop-group.ensures (omega (arith, c.new.ensures)) c.lane-lane.ensures in
    let on_named : IsMarked named lane =
    subst (IsMarked named) (c.from.ensures ∙ c.get.ensures) c.if-not-named-from.false in
    let below = c.requires.below i (omega (arith, c.loop-group-test.true, c.requires.stays, c.requires.one_each)) in
    AreLanesOfRanks-set old c.args.stays.now named c.args.ranks.now c.args.most i c.loop-group.lanes.items
    c.loop-group.invariant c.from-rank.result lane c.if-not-does_stay.false on_named (sym c.from-rank.ensures)
    here (omega (arith, below, c.from-rank.ensures))
