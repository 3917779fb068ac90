use Rattle.wq_cert.proofs.PrintedCircles.{answer_of-circle}
use Rattle.wq_cert.proofs.laws.a_circle_text_is_read_back.Goals as goal

pub returns : goal.returns
returns c = λ t p arcs steps table some few named steps_named most. answer_of-circle t table p arcs steps some few named steps_named most
