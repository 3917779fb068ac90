use Rattle.std.proofs.Common.{arith}
use Rattle.wq_voice.proofs.note.placed_item.Goals as goal

pub workqueue_of-requires : goal.workqueue_of-requires
workqueue_of-requires g c =
    let sound = c.table-table.ensures.assigned.declared in
    record { item = omega (arith, c.requires.item, sound.one_group_each) }
