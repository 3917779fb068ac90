use Rattle.wq_cert.proofs.TextLength.{length-run_text}
use Rattle.wq_cert.proofs.laws.a_run_text_is_within_the_limits.Goals as goal

pub returns : goal.returns
returns c = λ t steps table named few. length-run_text t.names table.named steps named few
