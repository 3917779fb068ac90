use Rattle.wq_circles.proofs.Answered.{Circles-unique, OwnCircles-unique}
use Rattle.wq_circles.proofs.Found.{circles-unique}
use Rattle.wq_circles.proofs.laws.circles_have_one_answer.Goals as goal

pub returns-clause-end : goal.returns-clause-end
returns-clause-end g c =
    λ declared text end other out printed one two. (Circles-unique declared text end other out printed one two).0

pub returns-clause-out : goal.returns-clause-out
returns-clause-out g c =
    λ declared text end other out printed one two. (Circles-unique declared text end other out printed one two).1

pub returns-clause-own_end : goal.returns-clause-own_end
returns-clause-own_end g c =
    λ declared end other out printed one two. (OwnCircles-unique declared end other out printed one two).0

pub returns-clause-own_out : goal.returns-clause-own_out
returns-clause-own_out g c =
    λ declared end other out printed one two. (OwnCircles-unique declared end other out printed one two).1

pub returns-clause-command : goal.returns-clause-command
returns-clause-command g c = circles-unique
