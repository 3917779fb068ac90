use Rattle.std.proofs.Common.{map, take}
use Rattle.wq_changes.specs.Told.{AreEach, IsToldWhy}
use Rattle.wq_changes.proofs.telling.all_whys.Given as goal

-- of the changes so far
abbrev pub invariant-loop-change : goal.invariant-loop-change
invariant-loop-change g l =
    AreEach
    (IsToldWhy l.repair.declaration.file.now l.repair.assignment.file.now l.repair.old.now.declared
    (map (λ n. n.now) l.repair.names.now) l.repair.old.now.workqueues l.repair.new.now)
    (take l.change-index l.changes) l.text.items
