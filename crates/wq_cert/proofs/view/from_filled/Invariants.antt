use Rattle.std.proofs.Common.{◌≡◌, length}
use Rattle.wq_cert.specs.Lines.{filled}
use Rattle.wq_cert.proofs.view.from_filled.Given as goal

-- the lines passed over hold no word, and those that are left are the ones to hand back
abbrev pub invariant-loop-line : goal.invariant-loop-line
invariant-loop-line l = (l.from ≡ l.rest) × (filled l.rest ≡ filled l.fn.lines)

abbrev pub decreases-loop-line : goal.decreases-loop-line
decreases-loop-line l = length l.rest
