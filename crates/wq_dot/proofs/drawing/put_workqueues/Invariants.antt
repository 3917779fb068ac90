use Rattle.std.proofs.Common.{◌≡◌, ◌++◌, map}
use Rattle.std.specs.Prelude.{flat_map}
use Rattle.std.specs.List.{range_with_len}
use Rattle.wq_dot.specs.Drawing.{workqueue_box_lines}
use Rattle.wq_dot.proofs.Lines.{text_of}
use Rattle.wq_dot.proofs.drawing.put_workqueues.Given as goal

-- the workqueues so far
abbrev pub invariant-loop-number : goal.invariant-loop-number
invariant-loop-number g l =
    let a = l.assigned-inside in
    l.out.items
    ≡ l.fn.out.items ++ text_of (flat_map (workqueue_box_lines a.declared.now.table.names
    a.declared.now.partition.group_of a.workqueues.now (map (λ v. v.now) l.called)) (range_with_len 0 l.number))
