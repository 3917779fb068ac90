use Rattle.wq_core.proofs.Safety.{IsSafe-falls, IsSafe-rescued}
use Rattle.wq_core.proofs.laws.falling_numbers_are_safe.Goals as goal

pub returns-clause-all_rescued : goal.returns-clause-all_rescued
returns-clause-all_rescued c = IsSafe-falls

pub returns-clause-rescued : goal.returns-clause-rescued
returns-clause-rescued c = IsSafe-rescued
