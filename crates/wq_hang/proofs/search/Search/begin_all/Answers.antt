use Rattle.std.proofs.Common.{length, take, ap, arith}
use Rattle.wq_hang.specs.Search.{Reach}
use Rattle.wq_hang.proofs.Sizes.{AsLarge-begin_all}
use Rattle.wq_hang.proofs.search.Search.begin_all.Goals as goal

pub begin_at-requires : goal.begin_at-requires
begin_at-requires g c =
    let large = AsLarge-begin_all (take c.loop-item.item-index c.args.on.now) c.args.self.now in
    omega (
      arith,
      c.new.ensures,
      c.requires.on c.loop-item.item-index 0 c.loop-item-test.true,
      ap (λ (r : Reach). length r.costs) c.loop-item.invariant,
      large.one_each,
    )
