use Rattle.wq_cert.proofs.PartsReadBack.{made_of-run, made_of-part}
use Rattle.wq_cert.proofs.laws.a_run_text_with_an_unsure_part_is_read_back.Goals as goal

pub returns-clause-without : goal.returns-clause-without
returns-clause-without c = λ t steps table known most. made_of-run t table steps known most

pub returns-clause-part : goal.returns-clause-part
returns-clause-part c = λ t kept steps table known are some most. made_of-part t table steps known kept are some most
