use Rattle.std.proofs.Common.{refl}
use Rattle.wq_dot.proofs.Found.{dot-unique}
use Rattle.wq_dot.proofs.OneDrawing.{DrawsBy-one, OwnDrawsBy-one}
use Rattle.wq_dot.proofs.laws.drawings_have_one_answer.Goals as goal

pub returns-clause-end : goal.returns-clause-end
returns-clause-end g c =
    λ declared text end other out printed one two.
    (DrawsBy-one one.0 two.0 end other out printed declared text one.1 two.1).0

pub returns-clause-out : goal.returns-clause-out
returns-clause-out g c =
    λ hops declared text end other out printed one two.
    (DrawsBy-one hops hops end other out printed declared text one two).1 refl

pub returns-clause-own_end : goal.returns-clause-own_end
returns-clause-own_end g c =
    λ declared end other out printed one two.
    (OwnDrawsBy-one one.0 two.0 end other out printed declared one.1 two.1).0

pub returns-clause-own_out : goal.returns-clause-own_out
returns-clause-own_out g c =
    λ hops declared end other out printed one two.
    (OwnDrawsBy-one hops hops end other out printed declared one two).1 refl

pub returns-clause-command : goal.returns-clause-command
returns-clause-command g c = dot-unique
