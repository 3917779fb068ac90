use Rattle.wq_voice.proofs.reason.of_groups.Goals as goal

pub returns : goal.returns
returns g c =
    rw (c.new-assigned.ensures, c.in_ok-workqueues.ensures.workqueues, c.can_hang_on_any.ensures)
    at c.of_subject.ensures
