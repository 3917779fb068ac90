use Rattle.wq_core.proofs.Results.{OnErr-holds}
use Rattle.wq_repair.proofs.repairing.repair_deadlocked.Goals as goal

pub returns-in-Some-clause-answer : goal.returns-in-Some-clause-answer
returns-in-Some-clause-answer g c = rw (c.in-Some.is) at c.in_ok-arcs.ensures.some

pub repair_without_circle-requires-clause-no_circle : goal.repair_without_circle-requires-clause-no_circle
repair_without_circle-requires-clause-no_circle g c = rw (c.in-None.is) at c.in_ok-arcs.ensures.none

pub returns-in_err-arcs-clause-memory : goal.returns-in_err-arcs-clause-memory
returns-in_err-arcs-clause-memory g c = OnErr-holds c.from_residual.result c.requires.lanes

pub returns-in-None-clause-memory : goal.returns-in-None-clause-memory
returns-in-None-clause-memory g c = OnErr-holds c.repair_without_circle.result c.requires.lanes
