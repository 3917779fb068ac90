use Rattle.std.proofs.Common.{◌≡◌, length, subst, sym}
use Rattle.wq_cert.proofs.ReadRanges.{IsAssignmentOf-assignment_of_text}
use Rattle.wq_groups.specs.DeclaredGroups.{Declared}
use Rattle.test_runtime.proofs.loads.answering.answer_declared.Goals as goal

pub invariant_of-bed : goal.invariant_of-bed
invariant_of-bed g c =
    let one_each = (IsAssignmentOf-assignment_of_text c.declared.inside.table.names c.declared.inside.groups
    c.declared.invariant.partition (sym c.declared.invariant.one_group_each) c.args.assigned.now c.in-Ok.assignment
    c.in-Ok.ensures.assignment).assignment.one_each in
    record {
      assigned = subst (λ (d : Declared). length c.in-Ok.assignment.lane_of_group ≡ d.partition.groups)
          c.declared.view_is one_each;
    }
