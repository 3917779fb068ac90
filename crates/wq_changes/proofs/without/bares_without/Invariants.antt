use Rattle.std.proofs.Common.{◌≡◌, map}
use Rattle.std.specs.List.{range_with_len}
use Rattle.wq_changes.specs.Without.{bare_without}
use Rattle.wq_changes.proofs.without.bares_without.Given as goal

-- of the lanes so far
abbrev pub invariant-loop-number : goal.invariant-loop-number
invariant-loop-number g l = l.bare.items ≡ map (bare_without l.new l.change) (range_with_len 0 l.number)
