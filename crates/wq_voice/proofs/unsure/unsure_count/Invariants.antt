use Rattle.std.proofs.Common.{◌≡◌, take}
use Rattle.wq_voice.specs.Unsure.{unsure_count}
use Rattle.wq_voice.proofs.unsure.unsure_count.Given as goal

-- the unsure flushes of the items so far
abbrev pub invariant-loop-number : goal.invariant-loop-number
invariant-loop-number g l = l.count ≡ unsure_count (take l.number l.table.waits)
