use Rattle.std.proofs.Common.{◌≡◌, ◌++◌, take}
use Rattle.std.specs.Prelude.{filter_map, flat_map}
use Rattle.wq_text.specs.LineText.{line_text}
use Rattle.wq_voice.specs.Chain.{unsure_wait}
use Rattle.wq_voice.proofs.chain.put_unsure_waits.Given as goal

-- the lines of the waits so far
abbrev pub invariant-loop-item : goal.invariant-loop-item
invariant-loop-item g l = l.out.items
    ≡ l.fn.out.items
    ++ flat_map line_text (filter_map (unsure_wait l.table.names l.table.waits) (take l.item-index l.arcs))
