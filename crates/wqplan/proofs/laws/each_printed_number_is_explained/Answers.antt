use Rattle.wqplan.proofs.NumberLemmas.{Known-printed, IsPrinted-known}
use Rattle.wqplan.proofs.laws.each_printed_number_is_explained.Goals as goal

pub returns : goal.returns
returns c = λ code. (Known-printed code, IsPrinted-known code)
