use Rattle.std.proofs.Common.{◌∙◌}
use Rattle.wq_cert.proofs.StoodLemmas.{NextItem-read, Marked-twice, Marked-more}
use Rattle.wq_cert.proofs.noted_workqueues.mark.Goals as goal

pub returns-then-is_marked : goal.returns-then-is_marked
returns-then-is_marked g c =
    let old = c.args.stood.items in
    let new = c.loop-item.stood.items in
    let items = c.args.items.now in
    let k = c.loop-item.item-index in
    let next = NextItem-read old new items k c.from-i.result c.item-item.result c.index-is_marked.result.now c.loop-item-test.true (c.from-i.ensures ∙ c.get.ensures) c.item-item.is c.requires c.loop-item.invariant c.index-is_marked.ensures in
    Marked-twice old new items k c.from-i.result c.index-is_marked.result.now next c.loop-item.invariant c.if-is_marked.true

pub loop-item-preserved : goal.loop-item-preserved
loop-item-preserved g c =
    let old = c.args.stood.items in
    let new = c.loop-item.stood.items in
    let items = c.args.items.now in
    let k = c.loop-item.item-index in
    let next = NextItem-read old new items k c.from-i.result c.item-item.result c.index-is_marked.result.now c.loop-item-test.true (c.from-i.ensures ∙ c.get.ensures) c.item-item.is c.requires c.loop-item.invariant c.index-is_marked.ensures in
    Marked-more old new items k c.from-i.result c.index-is_marked.result.now next c.loop-item.invariant c.if-is_marked.false
