use Rattle.std.proofs.Common.{◌≡◌, ◌++◌, take}
use Rattle.wq_text.specs.LineText.{line_text}
use Rattle.wq_cert.specs.RunText.{run_line, step_line}
use Rattle.wq_cert.proofs.LineLemmas.{lines}
use Rattle.wq_cert.proofs.run_printing.put_run.Given as goal

-- the line of the run, and the lines of the steps so far
abbrev pub invariant-loop-step : goal.invariant-loop-step
invariant-loop-step g l = l.out.items ≡ (l.fn.out.items ++ line_text (run_line l.steps)) ++ lines (step_line l.table.names) (take l.step-index l.steps)
