use Rattle.wq_groups.specs.DeclaredGroups.{declared_waits}
use Rattle.wq_repair.proofs.Readied.{IsAssignment-start}
use Rattle.wq_repair.proofs.repairing.repaired.Goals as goal

pub with_workqueues-begin-requires : goal.with_workqueues-begin-requires
with_workqueues-begin-requires g c =
    let a = c.args.assigned.now in
    (IsAssignment-start (declared_waits a.declared) a.workqueues c.requires.0 c.args.scope.now c.args.start.now
    c.workqueues_of-old.ensures.declaration c.requires.1).one_each

pub repaired_from-requires : goal.repaired_from-requires
repaired_from-requires g c = (
  c.requires.0,
  rw (c.with_workqueues-begin.ensures, c.workqueues_of-old.ensures.is) c.requires.1,
)

pub returns : goal.returns
returns g c = rw (c.with_workqueues-begin.ensures, c.workqueues_of-old.ensures.is) at c.repaired_from.ensures
