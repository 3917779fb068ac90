use Rattle.wq_core.proofs.machine.Core.new.Goals as goal

pub returns-clause-machine : goal.returns-clause-machine
returns-clause-machine g c = c.with_helpers.ensures.machine
