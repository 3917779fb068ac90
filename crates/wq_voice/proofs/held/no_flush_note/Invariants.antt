use Rattle.std.proofs.Common.{◌≡◌, map, take}
use Rattle.wq_diagnosis.specs.Words.{item_words}
use Rattle.wq_voice.proofs.held.no_flush_note.Given as goal

-- the words of the items so far
abbrev pub invariant-loop-item : goal.invariant-loop-item
invariant-loop-item g l =
    map (λ words. words.items) l.words.items ≡ map (item_words l.assigned.declared) (take l.item-index l.items)
