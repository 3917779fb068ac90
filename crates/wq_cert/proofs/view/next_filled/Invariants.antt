use Rattle.std.proofs.Common.{◌≡◌, length}
use Rattle.wq_cert.specs.Lines.{filled}
use Rattle.wq_cert.proofs.view.next_filled.Given as goal

-- the lines passed over hold no word
abbrev pub invariant-loop-line : goal.invariant-loop-line
invariant-loop-line l = filled l.lines ≡ filled l.initial.lines

abbrev pub decreases-loop-line : goal.decreases-loop-line
decreases-loop-line l = length l.lines
