use Rattle.wq_hang.proofs.StuckWalks.{walk_for_stuck}
use Rattle.wq_hang.proofs.FewestFor.{run_for_walk, IsSafeFor-no_walk, IsSafeFor-lane}
use Rattle.wq_hang.proofs.laws_for.items_are_held_up_by_walks.Goals as goal

pub returns-clause-walk : goal.returns-clause-walk
returns-clause-walk c = λ w named n steps wiring all ends.
    let is = walk_for_stuck w named n steps wiring ends in
    (is.0, is.1, is.2)

pub returns-clause-run : goal.returns-clause-run
returns-clause-run c = run_for_walk

pub returns-clause-safe : goal.returns-clause-safe
returns-clause-safe c = λ w named wiring all none. IsSafeFor-no_walk w named wiring none

pub returns-clause-lanes : goal.returns-clause-lanes
returns-clause-lanes c = λ w i j wiring item other same rescuer safe.
    IsSafeFor-lane w i j wiring item same rescuer safe
