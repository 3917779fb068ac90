use Rattle.wq_changes.proofs.Exact.{moved-said, moved-is_said, given-said, given-is_said}
use Rattle.wq_changes.proofs.laws.exactly_the_changes_are_said.Goals as goal

pub returns-clause-moved : goal.returns-clause-moved
returns-clause-moved c = λ d old new g. (moved-said d old new g, λ moved. moved-is_said d old new g moved.0 moved.1)

pub returns-clause-given : goal.returns-clause-given
returns-clause-given c = λ d old new q. (given-said d old new q, λ given. given-is_said d old new q given.0 given.1)
