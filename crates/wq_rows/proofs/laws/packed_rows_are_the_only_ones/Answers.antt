use Rattle.wq_rows.proofs.StoredLemmas.{IsStored-unique}
use Rattle.wq_rows.proofs.laws.packed_rows_are_the_only_ones.Goals as goal

pub returns : goal.returns
returns c = IsStored-unique
