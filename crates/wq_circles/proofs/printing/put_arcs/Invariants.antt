use Rattle.std.proofs.Common.{◌≡◌, ◌++◌, length, take}
use Rattle.wq_text.specs.LineText.{line_text}
use Rattle.wq_cert.proofs.LineLemmas.{lines}
use Rattle.wq_circles.specs.ComponentsText.{arc_words, count_line}
use Rattle.wq_circles.proofs.printing.put_arcs.Given as goal

-- the word with the number of arcs, and the lines of the arcs so far
abbrev pub invariant-loop-arc : goal.invariant-loop-arc
invariant-loop-arc g l =
    l.out.items ≡ (l.fn.out.items ++ line_text (count_line l.word (length l.arcs)))
    ++ lines (arc_words l.table.names l.table.waits) (take l.arc-index l.arcs)
