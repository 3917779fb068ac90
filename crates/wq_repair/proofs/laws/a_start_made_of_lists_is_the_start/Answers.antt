use Rattle.wq_repair.proofs.StartsBy.{IsStart-by}
use Rattle.wq_repair.proofs.laws.a_start_made_of_lists_is_the_start.Goals as goal

pub returns : goal.returns
returns c = IsStart-by
