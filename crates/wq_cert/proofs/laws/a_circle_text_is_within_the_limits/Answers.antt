use Rattle.wq_cert.proofs.PrintedCircles.{IsShort-circle}
use Rattle.wq_cert.proofs.TextLength.{length-circle_text}
use Rattle.wq_cert.proofs.laws.a_circle_text_is_within_the_limits.Goals as goal

pub returns-clause-text : goal.returns-clause-text
returns-clause-text c = λ t arcs steps table few named few_steps. length-circle_text t.names table.named arcs steps few named few_steps

pub returns-clause-lines : goal.returns-clause-lines
returns-clause-lines c = λ t arcs steps table few arcs_named named few_steps.
    IsShort-circle t table arcs steps few arcs_named named (length-circle_text t.names table.named arcs steps few named few_steps)
