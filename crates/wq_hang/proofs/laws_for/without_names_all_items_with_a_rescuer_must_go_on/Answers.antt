use Rattle.wq_hang.proofs.FewestFor.{IsFewestFor-rescued}
use Rattle.wq_hang.proofs.laws_for.without_names_all_items_with_a_rescuer_must_go_on.Goals as goal

pub returns : goal.returns
returns c = λ w kept steps wiring. IsFewestFor-rescued w kept steps
