use Rattle.wq_counts.proofs.Places.{sum-added, added_all}
use Rattle.wq_counts.proofs.counts.add_each.Goals as goal

pub returns-clause-total : goal.returns-clause-total
returns-clause-total c =
    sum-added c.args.counts.now c.args.more.now c.loop-i.counts c.requires.items c.loop-i.auto.counts
    (added_all c.args.counts.now c.args.more.now c.loop-i.counts c.loop-i.i c.requires.items c.loop-i-test.false c.loop-i.invariant.0 c.loop-i.invariant.1)
