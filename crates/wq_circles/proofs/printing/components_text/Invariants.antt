use Rattle.std.proofs.Common.{◌≡◌, ◌++◌, length, map, flat_map, take}
use Rattle.std.specs.Prelude.{codes}
use Rattle.wq_text.specs.LineText.{line_text}
use Rattle.wq_circles.specs.ComponentsText.{count_line, component_lines}
use Rattle.wq_circles.proofs.printing.components_text.Given as goal

-- the line of the components, and the lines of the components so far
abbrev pub invariant-loop-arcs : goal.invariant-loop-arcs
invariant-loop-arcs g l =
    l.out.items ≡ line_text (count_line (codes "components") (length l.components))
    ++ flat_map line_text (flat_map (component_lines l.table.names l.table.waits)
    (map (λ v. v.items) (take l.arcs-index l.components)))
