use Rattle.std.proofs.Common.{◌≡◌, ◌-◌, ◌++◌, take}
use Rattle.std.specs.List.{range_with_len}
use Rattle.wq_text.specs.LineText.{line_text}
use Rattle.wq_cert.specs.AroundText.{order_line}
use Rattle.wq_cert.specs.PlanText.{plan_line, wq_line, chain_line, arc_line}
use Rattle.wq_cert.proofs.LineLemmas.{lines}
use Rattle.wq_cert.proofs.around_printing.print_around.Given as goal

-- the lines of the new workqueues below q
abbrev pub invariant-loop-q : goal.invariant-loop-q
invariant-loop-q g l =
    l.out.items ≡ line_text (plan_line (l.lanes - l.fixed))
    ++ lines (wq_line l.table.names l.lane) (range_with_len l.fixed (l.q - l.fixed))

-- all of them, the lines of the order and of the chain, and those of the arcs so far
abbrev pub invariant-loop-arc : goal.invariant-loop-arc
invariant-loop-arc g l =
    l.out.items ≡ (((line_text (plan_line (l.lanes - l.fixed))
    ++ lines (wq_line l.table.names l.lane) (range_with_len l.fixed (l.lanes - l.fixed)))
    ++ line_text (order_line l.order)) ++ line_text (chain_line (l.lanes - l.fixed) l.chain))
    ++ lines (arc_line l.table.names) (take l.arc-index l.chain)
