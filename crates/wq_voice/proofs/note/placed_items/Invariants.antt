use Rattle.std.proofs.Common.{◌≡◌, map, take}
use Rattle.wq_voice.specs.Note.{placed_item}
use Rattle.wq_voice.proofs.note.placed_items.Given as goal

-- the items so far
abbrev pub invariant-loop-item : goal.invariant-loop-item
invariant-loop-item g l = map (λ words. words.items) l.placed.items
    ≡ map (placed_item l.assigned.declared l.assigned.workqueues (map (λ n. n.now) l.names)) (take l.item-index l.items)
