use Rattle.std.proofs.Common.{◌≡◌, ◌++◌, map}
use Rattle.std.specs.Prelude.{filter}
use Rattle.wq_text.specs.Lines.{LineView}
use Rattle.wq_names.specs.Names.{is_workqueue_line, name_on}
use Rattle.wq_names.proofs.names.names_on.Given as goal

-- the names so far, and those on the lines that are left
abbrev pub invariant-loop-line : goal.invariant-loop-line
invariant-loop-line g l =
    map (λ n. n.now) l.names.items ++ map (λ (line : LineView). name_on line.bytes) (filter is_workqueue_line l.line-iterator)
    ≡ map (λ (line : LineView). name_on line.bytes) (filter is_workqueue_line l.fn.lines)
