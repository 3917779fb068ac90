use Rattle.std.proofs.Common.{◌≡◌, length, None}
use Rattle.wq_decl.specs.Reading.{directives, first_fault}
use Rattle.wq_decl.proofs.view.next_directive.Given as goal

-- the lines passed over hold no directive and no fault
abbrev pub invariant-loop-line : goal.invariant-loop-line
invariant-loop-line l = (directives l.lines ≡ directives l.initial.lines) × (first_fault l.lines ≡ None)

abbrev pub decreases-loop-line : goal.decreases-loop-line
decreases-loop-line l = length l.lines
