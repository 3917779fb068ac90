use Rattle.std.proofs.Common.{ℕ, ◌≡◌, Some, subst, arith}
use Rattle.std.specs.Prelude.{slice_get}
use Rattle.wq_circles.proofs.Joined.{joined-more}
use Rattle.wq_circles.proofs.joining.joined_lanes.Goals as goal

pub loop-g-preserved : goal.loop-g-preserved
loop-g-preserved g c =
    let a = c.args.assigned.now in
    let lanes = a.workqueues.assignment.lane_of_group in
    let at = rw (c.assignment-assignment.ensures, c.workqueues.ensures.is) at c.lane-lane.ensures in
    let lane = subst (λ (n : ℕ). slice_get lanes n ≡ Some c.lane-lane.result) c.new.ensures at in
    let count = rw c.groups.ensures.is at c.len-count.ensures in
    joined-more c.args.lowest.now lanes c.loop-g.lanes.items c.push.new.self.items c.loop-g.g c.lane-lane.result
    c.get.result c.from-in-loop-g.result c.new-in-loop-g.result
    (omega (arith, c.loop-g-test.true, count, c.groups.ensures.assigned.assignment.assignment.one_each)) lane
    c.loop-g.invariant c.get.ensures c.from-in-loop-g.ensures c.new-in-loop-g.ensures c.in_ok-push.ensures.items
