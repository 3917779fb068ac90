use Rattle.std.proofs.Common.{◌≡◌, map}
use Rattle.std.specs.Prelude.{flat_map}
use Rattle.std.specs.List.{range_with_len}
use Rattle.wq_groups.specs.Assignment.{item_lanes}
use Rattle.wq_repair_command.specs.AssignmentText.{workqueue_text}
use Rattle.wq_repair_command.proofs.assignment.assignment_text.Given as goal

-- the lines of the workqueues below q
abbrev pub invariant-loop-q : goal.invariant-loop-q
invariant-loop-q g l =
    l.out.items
    ≡ flat_map (workqueue_text l.table.names (item_lanes l.workqueues.assignment l.assigned.declared.partition.group_of)
    l.workqueues.bare (map (λ n. n.now) l.names)) (range_with_len 0 l.q)
