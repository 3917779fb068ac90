use Rattle.wq_hang.proofs.Shortest.{length-run_of_walk, IsSafe-no_walk}
use Rattle.wq_hang.proofs.Fewest.{one_each, IsFewest-least}
use Rattle.wq_hang.proofs.laws.a_least_walk_has_a_shortest_run.Goals as goal

pub returns-clause-fewest : goal.returns-clause-fewest
returns-clause-fewest c = λ w hops beside wiring are low least. IsFewest-least w hops beside wiring are least low

pub returns-clause-one_each : goal.returns-clause-one_each
returns-clause-one_each c = one_each

pub returns-clause-as_long : goal.returns-clause-as_long
returns-clause-as_long c = length-run_of_walk

pub returns-clause-safe : goal.returns-clause-safe
returns-clause-safe c = IsSafe-no_walk
