use Rattle.std.proofs.Common.{◌≡◌, ◌++◌, take}
use Rattle.wq_text.specs.LineText.{line_text}
use Rattle.wq_cert.specs.PlanText.{arc_line}
use Rattle.wq_cert.specs.CircleText.{circle_line}
use Rattle.wq_cert.proofs.LineLemmas.{lines}
use Rattle.wq_cert.proofs.circle_printing.put_circle.Given as goal

-- the line of the circle, and the lines of the arcs so far
abbrev pub invariant-loop-arc : goal.invariant-loop-arc
invariant-loop-arc g l = l.out.items ≡ (l.fn.out.items ++ line_text (circle_line l.arcs)) ++ lines (arc_line l.table.names) (take l.arc-index l.arcs)
