use Rattle.std.proofs.Common.{ℕ, ◌<◌, List, length, sym, ap, subst, arith}
use Rattle.std.specs.List.{All}
use Rattle.wq_hang.specs.Search.{Reach}
use Rattle.wq_hang.proofs.Sizes.{AsLarge-all}
use Rattle.wq_hang.proofs.search.Search.reach_lane.Goals as goal

pub reach_all-requires-clause-on : goal.reach_all-requires-clause-on
reach_all-requires-clause-on g c =
    subst (λ (l : List ℕ). All (λ j. j < length c.args.self.now.costs) l) (sym c.places.ensures) c.requires.on

pub index_mut-requires : goal.index_mut-requires
index_mut-requires g c =
    let large = AsLarge-all c.args.near c.args.cost c.args.item c.args.flush.now c.places.result.now c.args.self.now in
    let view = ap (λ (r : Reach). length r.lane_costs) c.self-then-cost-index.view_is in
    let made = ap (λ (r : Reach). length r.lane_costs) c.in_ok-reach_all.ensures in
    omega (arith, c.from-then-cost-index.ensures, c.requires.lane, view, made, large.lanes_each)
