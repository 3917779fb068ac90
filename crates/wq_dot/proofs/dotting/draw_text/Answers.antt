use Rattle.wq_cert.specs.Reading.{lanes_reading}
use Rattle.wq_cert.proofs.ReadRanges.{IsReadSo-text_reading}
use Rattle.wq_dot.proofs.dotting.draw_text.Goals as goal

pub new-assigned-requires : goal.new-assigned-requires
new-assigned-requires g c = c.in-Ok.ensures.assigned

pub draw_named-requires : goal.draw_named-requires
draw_named-requires g c =
    let s = c.args.declared.now in
    (IsReadSo-text_reading (lanes_reading s.table.names s.partition) c.args.text.now c.in-Ok.workqueues
    c.in-Ok.ensures.workqueues).within

pub returns-in-Ok : goal.returns-in-Ok
returns-in-Ok g c =
    rw c.in-Ok.ensures.workqueues (rw c.new-assigned.ensures at c.draw_named.ensures)
