use Rattle.wq_levels.proofs.WaysOn.{Remains-next}
use Rattle.wq_levels.proofs.Existence.{Remains-held}
use Rattle.wq_levels.proofs.laws.what_remains_is_what_holds_each_other.Goals as goal

pub returns-clause-held : goal.returns-clause-held
returns-clause-held c = λ graph v sound. Remains-next graph sound v

pub returns-clause-most : goal.returns-clause-most
returns-clause-most c = Remains-held
