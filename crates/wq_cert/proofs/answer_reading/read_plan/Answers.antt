use Rattle.std.proofs.Common.{map, sym, ap, subst}
use Rattle.wq_cert.specs.Growth.{BeginsWell}
use Rattle.wq_cert.specs.Lines.{cert_line}
use Rattle.wq_cert.specs.Reading.{plan_reading}
use Rattle.wq_cert.proofs.GrowthLemmas.{BeginsWell-plan}
use Rattle.wq_cert.proofs.answer_reading.read_plan.Goals as goal

pub returns-in_err-assignment-clause-memory : goal.returns-in_err-assignment-clause-memory
returns-in_err-assignment-clause-memory g c =
    λ e. subst (BeginsWell (plan_reading c.args.table.now.names c.args.groups.now) 1) (sym (ap (map cert_line) c.in-Some.ensures.steps))
    (BeginsWell-plan c.args.table.now.names c.args.groups.now (cert_line c.in-Some.first) (map cert_line c.next.new.self) c.in_ok-count.count (sym c.in_ok-count.ensures))

pub returns-in_err-length-clause-memory : goal.returns-in_err-length-clause-memory
returns-in_err-length-clause-memory g c =
    λ e. subst (BeginsWell (plan_reading c.args.table.now.names c.args.groups.now) 1) (sym (ap (map cert_line) c.in-Some.ensures.steps))
    (BeginsWell-plan c.args.table.now.names c.args.groups.now (cert_line c.in-Some.first) (map cert_line c.next.new.self) c.in_ok-count.count (sym c.in_ok-count.ensures))
