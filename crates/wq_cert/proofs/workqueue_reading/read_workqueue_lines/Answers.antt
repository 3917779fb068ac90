use Rattle.std.proofs.Common.{◌≡◌, Ok, List, subst}
use Rattle.std.specs.Prelude.{IfOk, IfErr}
use Rattle.wq_cert.specs.Lines.{CertLine}
use Rattle.wq_cert.specs.Reading.{workqueues_reading}
use Rattle.wq_cert.specs.Texts.{IsCertFaultOf}
use Rattle.wq_cert.proofs.SaidLines.{said_lines-false}
use Rattle.wq_cert.proofs.workqueue_reading.read_workqueue_lines.Goals as goal

pub returns-clause-assignment : goal.returns-clause-assignment
returns-clause-assignment g c =
    subst (λ (ls : List CertLine). IfOk c.read_lines.result (λ a. workqueues_reading c.args.table.now.names c.args.groups.now ls ≡ Ok a)) (said_lines-false c.args.lines) c.read_lines.ensures.assignment

pub returns-clause-fault : goal.returns-clause-fault
returns-clause-fault g c =
    subst (λ (ls : List CertLine). IfErr c.read_lines.result (λ e. IsCertFaultOf e (workqueues_reading c.args.table.now.names c.args.groups.now ls))) (said_lines-false c.args.lines) c.read_lines.ensures.fault
