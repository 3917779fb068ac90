use Rattle.wq_cert.proofs.CutShort.{plan_reading-cut, run_reading-cut}
use Rattle.wq_cert.proofs.laws.a_certificate_cut_short_ends_too_early.Goals as goal

pub returns-clause-plan : goal.returns-clause-plan
returns-clause-plan c = λ names p lines cut plan some e. plan_reading-cut names p lines cut plan some e

pub returns-clause-run : goal.returns-clause-run
returns-clause-run c = λ names lines cut steps some e. run_reading-cut names lines cut steps some e
