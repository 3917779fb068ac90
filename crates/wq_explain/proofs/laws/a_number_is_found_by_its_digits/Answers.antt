use Rattle.std.proofs.Common.{ap}
use Rattle.std.specs.Prelude.{decimal}
use Rattle.wq_explain.specs.Explaining.{explanation_of, explanations, known_or_not}
use Rattle.wq_explain.proofs.NumberLemmas.{number_in-decimal}
use Rattle.wq_explain.proofs.laws.a_number_is_found_by_its_digits.Goals as goal

pub returns : goal.returns
returns c = λ code fits. ap (λ o. known_or_not (explanation_of explanations (decimal code) o)) (number_in-decimal code fits)
