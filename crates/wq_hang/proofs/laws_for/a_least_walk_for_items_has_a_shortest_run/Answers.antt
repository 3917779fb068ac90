use Rattle.wq_hang.proofs.FewestFor.{IsFewestFor-least, one_each_for}
use Rattle.wq_hang.proofs.laws_for.a_least_walk_for_items_has_a_shortest_run.Goals as goal

pub returns-clause-fewest : goal.returns-clause-fewest
returns-clause-fewest c = λ w named x hops wiring are low least.
    IsFewestFor-least w named x hops wiring are least low

pub returns-clause-one_each : goal.returns-clause-one_each
returns-clause-one_each c = one_each_for
