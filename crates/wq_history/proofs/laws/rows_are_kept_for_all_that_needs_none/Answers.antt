use Rattle.wq_history.proofs.KeptRows.{kept_rows}
use Rattle.wq_history.proofs.laws.rows_are_kept_for_all_that_needs_none.Goals as goal

pub returns : goal.returns
returns c = kept_rows
