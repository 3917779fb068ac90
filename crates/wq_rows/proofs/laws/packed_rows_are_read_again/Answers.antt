use Rattle.wq_rows.proofs.PackingLemmas.{rows_of-packed_rows}
use Rattle.wq_rows.proofs.laws.packed_rows_are_read_again.Goals as goal

pub returns : goal.returns
returns c = rows_of-packed_rows
