use Rattle.wq_circles.proofs.Promised.{lie}
use Rattle.wq_circles.proofs.Safe.{flushes}
use Rattle.wq_circles.proofs.laws.what_lies_on_a_circle_is_in_a_component.Goals as goal

pub returns-clause-same : goal.returns-clause-same
returns-clause-same c = λ d ws components b declaration assignment are flush. lie d ws.assignment ws.bare declaration assignment components are b flush

pub returns-clause-declared : goal.returns-clause-declared
returns-clause-declared c = λ d ws components declaration assignment are. flushes d ws.assignment ws.bare declaration assignment components are
