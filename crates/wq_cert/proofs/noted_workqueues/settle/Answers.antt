use Rattle.std.proofs.Common.{◌∙◌, sym}
use Rattle.wq_cert.proofs.LaneLemmas.{NextMember-read, Settled-split, Settled-more}
use Rattle.wq_cert.proofs.noted_workqueues.settle.Goals as goal

pub returns-then-is_other : goal.returns-then-is_other
returns-then-is_other g c =
    let p = c.args.groups.now in
    let old = c.args.lane_of_group.items in
    let new = c.loop-item.lane_of_group.items in
    let items = c.args.items.now in
    let k = c.loop-item.item-index in
    let next = NextMember-read p c.args.lane new items k c.item-item.result c.of.result c.from-group.result c.index-held.result.now c.loop-item-test.true c.item-item.is c.of.ensures.group c.of.ensures.within (c.from-group.ensures ∙ c.get.ensures) c.index-held.ensures in
    Settled-split p c.args.lane old new items k c.item-item.result c.from-group.result c.index-held.result.now next c.loop-item.invariant (sym c.is_other.ensures ∙ c.if-is_other.true)

pub loop-item-preserved : goal.loop-item-preserved
loop-item-preserved g c =
    let p = c.args.groups.now in
    let old = c.args.lane_of_group.items in
    let new = c.loop-item.lane_of_group.items in
    let items = c.args.items.now in
    let k = c.loop-item.item-index in
    let next = NextMember-read p c.args.lane new items k c.item-item.result c.of.result c.from-group.result c.index-held.result.now c.loop-item-test.true c.item-item.is c.of.ensures.group c.of.ensures.within (c.from-group.ensures ∙ c.get.ensures) c.index-held.ensures in
    Settled-more p c.args.lane old new items k c.item-item.result c.from-group.result c.index-held.result.now next c.loop-item.invariant (sym c.is_other.ensures ∙ c.if-is_other.false)
