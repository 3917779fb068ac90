use Rattle.wq_groups.specs.DeclaredGroups.{declared_waits}
use Rattle.wq_repair.proofs.NeededGroups.{Marks-named_lanes}
use Rattle.wq_repair.proofs.named.named_by.Goals as goal

pub returns : goal.returns
returns g c =
    let d = declared_waits c.args.assigned.now.declared in
    let ws = c.args.assigned.now.workqueues in
    let groups = c.in_ok-groups.groups.items in
    let lanes = c.in_ok-lanes.lanes.items in
    record {
      groups = c.in_ok-groups.ensures;
      lanes = Marks-named_lanes d ws c.args.names.now groups lanes ws.assignment.lanes c.in_ok-groups.ensures
          (rw (c.as_slice.ensures.value, c.workqueues_of.ensures.is) at c.in_ok-lanes.ensures);
    }
