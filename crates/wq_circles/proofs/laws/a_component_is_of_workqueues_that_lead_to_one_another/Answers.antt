use Rattle.wq_circles.proofs.Promised.{together}
use Rattle.wq_circles.proofs.Safe.{some_arcs}
use Rattle.wq_circles.proofs.laws.a_component_is_of_workqueues_that_lead_to_one_another.Goals as goal

pub returns-clause-together : goal.returns-clause-together
returns-clause-together _ = λ d ws components b c declaration assignment are one other. together d ws.assignment ws.bare declaration assignment components are b c one other

pub returns-clause-some : goal.returns-clause-some
returns-clause-some c = some_arcs
