use Rattle.std.proofs.Common.{map, take}
use Rattle.wq_changes.specs.Told.{AddsEach, IsTold}
use Rattle.wq_changes.proofs.telling.with_all_told.Given as goal

-- of the changes so far
abbrev pub invariant-loop-change : goal.invariant-loop-change
invariant-loop-change g l =
    AddsEach
    (IsTold l.repair.assignment.file.now l.repair.old.now.declared
    (map (λ n. n.now) l.repair.names.now) l.repair.old.now.workqueues l.repair.new.now)
    (take l.change-index l.changes) l.fn.text.items l.text.items
