use Rattle.wq_changes.proofs.circle.of_circle.Goals as goal

pub of_circle_on-requires : goal.of_circle_on-requires
of_circle_on-requires g c = rw c.new-assigned.ensures c.requires

pub returns : goal.returns
returns g c =
    rw (c.new-assigned.ensures, c.in_ok-workqueues.ensures.workqueues) at c.of_circle_on.ensures
