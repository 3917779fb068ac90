use Rattle.wq_cert.proofs.PrintedRuns.{run_of-printed}
use Rattle.wq_cert.proofs.laws.a_run_text_is_read_back.Goals as goal

pub returns : goal.returns
returns c = λ t steps table named most. run_of-printed t table steps named most
