use Rattle.wq_repair.proofs.Falling.{IsSafe-falling}
use Rattle.wq_repair.proofs.laws.falling_numbers_of_needed_groups_are_safe.Goals as goal

pub returns : goal.returns
returns c = IsSafe-falling
