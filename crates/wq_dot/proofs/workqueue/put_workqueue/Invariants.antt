use Rattle.std.proofs.Common.{◌≡◌, ◌++◌, take}
use Rattle.std.specs.Prelude.{flat_map}
use Rattle.wq_items.specs.Table.{items_at}
use Rattle.wq_dot.specs.Drawing.{group_lines}
use Rattle.wq_dot.proofs.Lines.{text_of}
use Rattle.wq_dot.proofs.workqueue.put_workqueue.Given as goal

-- the first two lines, and the lines of the groups so far
abbrev pub invariant-loop-group : goal.invariant-loop-group
invariant-loop-group g l = l.out.items ≡ l.initial.out.items ++ text_of (flat_map (λ k. group_lines l.table.names (items_at l.groups.group_of k)) (take l.group-index l.own))
