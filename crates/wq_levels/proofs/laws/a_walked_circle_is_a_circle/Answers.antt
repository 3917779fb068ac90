use Rattle.wq_levels.proofs.Walks.{LeadsRound-walked}
use Rattle.wq_levels.proofs.OneCircle.{IsWalkedCircle-few, HasCircle-walked}
use Rattle.wq_levels.proofs.laws.a_walked_circle_is_a_circle.Goals as goal

pub returns-clause-round : goal.returns-clause-round
returns-clause-round c = LeadsRound-walked

pub returns-clause-few : goal.returns-clause-few
returns-clause-few c = IsWalkedCircle-few

pub returns-clause-has_circle : goal.returns-clause-has_circle
returns-clause-has_circle c = λ graph circle sound. HasCircle-walked graph sound circle
