use Rattle.wq_circles.proofs.Promised.{AreOnCircles-components}
use Rattle.wq_circles.proofs.laws.components_are_in_order.Goals as goal

pub returns-clause-places : goal.returns-clause-places
returns-clause-places c = λ d ws components declaration assignment are. (AreOnCircles-components d ws.assignment ws.bare declaration assignment components are).places

pub returns-clause-workqueues : goal.returns-clause-workqueues
returns-clause-workqueues c = λ d ws components declaration assignment are. (AreOnCircles-components d ws.assignment ws.bare declaration assignment components are).workqueues
