use Rattle.std.proofs.Common.{subst}
use Rattle.std.specs.Prelude.{IfOk, IfErr}
use Rattle.wq_cert.specs.Lines.{CertLine}
use Rattle.wq_cert.specs.Noted.{IsNextNoted}
use Rattle.wq_cert.specs.Reading.{wq_reading}
use Rattle.wq_cert.specs.Texts.{IsCertFaultOf}
use Rattle.wq_cert.proofs.SaidLines.{said_line-false}
use Rattle.wq_cert.proofs.noted_workqueues.NotedWorkqueues.read.Goals as goal

pub returns-clause-workqueues : goal.returns-clause-workqueues
returns-clause-workqueues g c = λ workqueues noted.
    subst (λ (l : CertLine). IfOk c.read_line.result (λ q. IsNextNoted c.args.table.now.names c.args.groups.now workqueues l q.count q.stood.items q.lane_of_group.items)) (said_line-false c.args.line.now)
    (c.read_line.ensures.workqueues workqueues noted)

pub returns-clause-fault : goal.returns-clause-fault
returns-clause-fault g c = λ workqueues noted.
    subst (λ (l : CertLine). IfErr c.read_line.result (λ e. IsCertFaultOf e (wq_reading c.args.table.now.names c.args.groups.now.group_of workqueues l))) (said_line-false c.args.line.now)
    (c.read_line.ensures.fault workqueues noted)
