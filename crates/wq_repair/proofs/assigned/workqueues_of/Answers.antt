use Rattle.std.proofs.Common.{sym, subst, arith}
use Rattle.wq_groups.specs.Assignment.{IsAssignmentOf}
use Rattle.wq_groups.specs.DeclaredGroups.{IsSound}
use Rattle.wq_groups.proofs.Declarations.{IsDeclaration-of}
use Rattle.wq_core.specs.Workqueues.{Workqueues}
use Rattle.wq_repair.proofs.assigned.workqueues_of.Goals as goal

pub returns-clause-declaration : goal.returns-clause-declaration
returns-clause-declaration g c =
    let s = c.args.assigned.now.declared in
    let sound : IsSound s = c.workqueues.ensures.assigned.declared in
    IsDeclaration-of s.table s.partition sound.table sound.partition sound.one_group_each

pub returns-clause-assignment : goal.returns-clause-assignment
returns-clause-assignment g c =
    let groups = c.args.assigned.now.declared.partition.groups in
    subst (λ (ws : Workqueues). IsAssignmentOf groups ws.assignment) (sym c.workqueues.ensures.is)
    c.workqueues.ensures.assigned.assignment

pub returns-clause-few : goal.returns-clause-few
returns-clause-few g c = omega (
  arith,
  c.workqueues.ensures.assigned.declared.partition.few_groups,
  c.workqueues.ensures.assigned.declared.partition.few_items,
)
