use Rattle.wq_history.proofs.KeptRows.{exist}
use Rattle.wq_history.proofs.laws.items_and_lanes_of_legal_rows_exist.Goals as goal

pub returns : goal.returns
returns c = exist
