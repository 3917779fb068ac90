use Rattle.std.proofs.Common.{length, take, ap, sym, ◌∙◌, arith}
use Rattle.wq_hang.specs.Search.{Reach}
use Rattle.wq_hang.proofs.Sizes.{AsLarge-all}
use Rattle.wq_hang.proofs.search.Search.reach_all.Goals as goal

pub reach-requires-clause-next : goal.reach-requires-clause-next
reach-requires-clause-next g c =
    let large = AsLarge-all c.args.near c.args.cost c.args.item c.args.flush.now (take c.loop-next.next-index c.args.on.now) c.args.self.now in
    omega (arith, c.new.ensures, c.requires.on c.loop-next.next-index 0 c.loop-next-test.true, ap (λ (r : Reach). length r.costs) c.loop-next.invariant, large.one_each)

pub reach-requires-clause-one_each : goal.reach-requires-clause-one_each
reach-requires-clause-one_each g c =
    let large = AsLarge-all c.args.near c.args.cost c.args.item c.args.flush.now (take c.loop-next.next-index c.args.on.now) c.args.self.now in
    ap (λ (r : Reach). length r.by) c.loop-next.invariant ∙ large.by_each ∙ c.requires.one_each ∙ sym large.one_each ∙ sym (ap (λ (r : Reach). length r.costs) c.loop-next.invariant)
