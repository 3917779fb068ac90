-- Workqueues that the groups of a declaration are on.
use Rattle.wq_groups.specs.Assignment.{IsAssignmentOf}
use Rattle.wq_groups.specs.DeclaredGroups.{Declared, IsSound}
use Rattle.wq_core.specs.Workqueues.{Workqueues}

-- what is declared, and workqueues of its groups
pub record Assigned : Type 0 where
  pub declared : Declared
  pub workqueues : Workqueues

-- the groups are those of the items, and each is on one of at most 4,096 workqueues
pub record IsAssigned (a : Assigned) : Type 0 where
  pub declared : IsSound a.declared
  pub assignment : IsAssignmentOf a.declared.partition.groups a.workqueues.assignment
