use Rattle.std.proofs.Common.{◌≡◌, ◌++◌}
use Rattle.std.specs.Prelude.{true}
use Rattle.std.specs.List.{range_with_len}
use Rattle.wq_counts.specs.Counting.{made}
use Rattle.wq_text.specs.LineText.{line_text}
use Rattle.wq_cert.proofs.LineLemmas.{lines}
use Rattle.wq_run.specs.Report.{workqueues_line, item_line}
use Rattle.wq_run.proofs.report.report_text.Given as goal

-- the first line, and the lines of the items below i
abbrev pub invariant-loop-i : goal.invariant-loop-i
invariant-loop-i g l =
    l.out.items ≡ line_text (workqueues_line l.assignment.lanes)
    ++ lines (item_line l.declared l.assignment (λ i kind. made l.closed.counts i kind true)) (range_with_len 0 l.i)
