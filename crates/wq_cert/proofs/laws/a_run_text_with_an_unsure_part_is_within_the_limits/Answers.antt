use Rattle.wq_cert.proofs.PartsReadBack.{few-kept}
use Rattle.wq_cert.proofs.TextLength.{length-reading_text}
use Rattle.wq_cert.proofs.laws.a_run_text_with_an_unsure_part_is_within_the_limits.Goals as goal

pub returns : goal.returns
returns c = λ t kept steps table known are few. length-reading_text t.names table.named t.waits kept steps known
    (few-kept t table kept are) few
