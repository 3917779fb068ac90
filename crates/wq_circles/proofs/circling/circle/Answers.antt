use Rattle.wq_circles.proofs.circling.circle.Goals as goal

pub returns-else-assigned : goal.returns-else-assigned
returns-else-assigned g c = rw c.if-assigned.false c.circle_groups.ensures
