use Rattle.wq_text.specs.LineText.{line_text}
use Rattle.wq_voice.specs.Chain.{unsure_wait}
use Rattle.wq_voice.proofs.ChainNotes.{lines-next}
use Rattle.wq_voice.proofs.chain.put_unsure_waits.Goals as goal

pub loop-item-preserved : goal.loop-item-preserved
loop-item-preserved g c =
    let t = c.args.table.now in
    lines-next (unsure_wait t.names t.waits) line_text c.args.arcs.now c.loop-item.item-index c.loop-item-item.result
    c.args.out.now.items c.loop-item.out.items c.put_unsure_wait.new.out.items c.loop-item-test.true c.loop-item-item.is
    c.loop-item.invariant c.in_ok-put_unsure_wait.ensures
