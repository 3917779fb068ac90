use Rattle.std.proofs.Common.{length, ap, arith}
use Rattle.wq_hang.specs.Search.{Reach}
use Rattle.wq_hang.proofs.Sizes.{AsLarge-begin_all}
use Rattle.wq_hang.proofs.search.Search.start_lane.Goals as goal

pub index_mut-requires : goal.index_mut-requires
index_mut-requires g c =
    let large = AsLarge-begin_all c.args.on.now c.args.self.now in
    let view = ap (λ (r : Reach). length r.lane_costs) c.self-then-index-gt1.view_is in
    let made = ap (λ (r : Reach). length r.lane_costs) c.in_ok-begin_all.ensures in
    omega (arith, c.from-then-index-gt1.ensures, c.requires.lane, view, made, large.lanes_each)
