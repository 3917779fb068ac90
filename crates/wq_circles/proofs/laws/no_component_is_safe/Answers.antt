use Rattle.wq_circles.proofs.Safe.{IsSafe-none, none-IsSafe}
use Rattle.wq_circles.proofs.laws.no_component_is_safe.Goals as goal

pub returns : goal.returns
returns c = λ d ws components declaration assignment few are. (
  (λ none. IsSafe-none d ws.assignment ws.bare declaration assignment components are few none.0 none.1),
  none-IsSafe d ws.assignment ws.bare declaration assignment components are,
)
