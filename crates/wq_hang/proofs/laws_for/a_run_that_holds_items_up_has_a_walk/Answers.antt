use Rattle.wq_hang.proofs.FewestFor.{walk_for_steps, cost_for_reading}
use Rattle.wq_hang.proofs.laws_for.a_run_that_holds_items_up_has_a_walk.Goals as goal

pub returns-clause-steps : goal.returns-clause-steps
returns-clause-steps c = λ w named n steps wiring all ends. walk_for_steps w named n steps wiring ends

pub returns-clause-reading : goal.returns-clause-reading
returns-clause-reading c = λ w named kept n steps wiring are all ends.
    cost_for_reading w named kept n steps wiring are ends
