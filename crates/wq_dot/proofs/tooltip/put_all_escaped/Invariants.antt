use Rattle.std.proofs.Common.{◌≡◌, ◌++◌, take}
use Rattle.std.specs.Prelude.{flat_map}
use Rattle.wq_dot.specs.Tooltips.{escaped}
use Rattle.wq_dot.proofs.tooltip.put_all_escaped.Given as goal

-- the bytes so far
abbrev pub invariant-loop-byte : goal.invariant-loop-byte
invariant-loop-byte g l = l.out.items ≡ l.initial.out.items ++ flat_map escaped (take l.byte-index l.bytes)
