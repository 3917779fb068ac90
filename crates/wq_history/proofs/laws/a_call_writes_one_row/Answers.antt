use Rattle.wq_history.proofs.Uniqueness.{one-row}
use Rattle.wq_history.proofs.laws.a_call_writes_one_row.Goals as goal

pub returns : goal.returns
returns c b new next call r s book one first other second = one-row b new next r s book first second call one other
