use Rattle.wq_rows.proofs.StoredLemmas.{IsPackedRow-unique}
use Rattle.wq_rows.proofs.laws.what_is_packed_is_unpacked_again.Goals as goal

pub returns : goal.returns
returns c = IsPackedRow-unique
