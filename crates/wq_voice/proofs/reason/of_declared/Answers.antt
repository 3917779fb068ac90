use Rattle.wq_voice.proofs.reason.of_declared.Goals as goal

pub say_reason-requires : goal.say_reason-requires
say_reason-requires g c = record { read = rw c.new-assigned.ensures c.in-Ok.ensures.workqueues }

pub returns-in-Ok : goal.returns-in-Ok
returns-in-Ok g c = rw c.in-Ok.ensures.workqueues (rw c.new-assigned.ensures at c.say_reason.ensures)
