use Rattle.wq_readings.proofs.DecisionLemmas.{hangs-confirmed, no_more-confirmed, one_less-confirmed}
use Rattle.wq_readings.proofs.DecisionLemmas.{of_those-confirmed}
use Rattle.wq_readings.proofs.decisions.a_flush_that_is_confirmed_is_one_less_to_decide.Goals as goal

pub returns-clause-hangs : goal.returns-clause-hangs
returns-clause-hangs c = hangs-confirmed

pub returns-clause-no_more : goal.returns-clause-no_more
returns-clause-no_more c = no_more-confirmed

pub returns-clause-one_less : goal.returns-clause-one_less
returns-clause-one_less c = one_less-confirmed

pub returns-clause-of_those : goal.returns-clause-of_those
returns-clause-of_those c = of_those-confirmed
