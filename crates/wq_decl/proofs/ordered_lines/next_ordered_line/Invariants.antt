use Rattle.std.proofs.Common.{◌≡◌, length, None}
use Rattle.wq_decl.specs.Reading.{directives, first_fault, ordered_lines}
use Rattle.wq_decl.proofs.ordered_lines.next_ordered_line.Given as goal

-- the lines passed over are no `ordered` lines and have no fault
abbrev pub invariant-loop-line : goal.invariant-loop-line
invariant-loop-line l = (ordered_lines (directives l.lines) ≡ ordered_lines (directives l.initial.lines)) × (first_fault l.lines ≡ None)

abbrev pub decreases-loop-line : goal.decreases-loop-line
decreases-loop-line l = length l.lines
