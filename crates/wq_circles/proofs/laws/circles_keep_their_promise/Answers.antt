use Rattle.wq_circles.proofs.Promised.{KeepsCircles-answers, KeepsOwnCircles-answers}
use Rattle.wq_circles.proofs.laws.circles_keep_their_promise.Goals as goal

pub returns-clause-assigned : goal.returns-clause-assigned
returns-clause-assigned c = KeepsCircles-answers

pub returns-clause-own : goal.returns-clause-own
returns-clause-own c = KeepsOwnCircles-answers
