use Rattle.wq_core.proofs.Safety.{one_context-end_of}
use Rattle.wq_core.proofs.laws.an_item_runs_in_one_context.Goals as goal

pub returns : goal.returns
returns c = one_context-end_of
