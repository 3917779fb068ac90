use Rattle.std.proofs.Common.{map, Err, sym, ap, subst}
use Rattle.wq_cert.specs.Growth.{BeginsWell}
use Rattle.wq_cert.specs.Lines.{cert_line}
use Rattle.wq_cert.specs.Reading.{arc_reading, circle_reading}
use Rattle.wq_cert.specs.declared.fault.CertError.TheVariants.{OutOfMemory}
use Rattle.wq_cert.proofs.GrowthLemmas.{Err-passed, ReadsOne-all, BeginsWell-circle, circle_count-some}
use Rattle.wq_cert.proofs.arc_reading.read_circle.Goals as goal

pub returns-in_err-arcs-clause-memory : goal.returns-in_err-arcs-clause-memory
returns-in_err-arcs-clause-memory g c =
    λ e. subst (BeginsWell (circle_reading c.args.table.now.names) 2) (sym (ap (map cert_line) c.in-Some.ensures.steps))
    (BeginsWell-circle c.args.table.now.names (cert_line c.in-Some.first) c.in_ok-count.count (map cert_line c.next.new.self) (sym c.in_ok-count.ensures)
    (c.in_err-arcs.ensures.memory (ap Err (Err-passed _ _ OutOfMemory c.from_residual-in_err-arcs.ensures.1 e))))

pub returns-in_err-steps-clause-memory : goal.returns-in_err-steps-clause-memory
returns-in_err-steps-clause-memory g c =
    λ e. subst (BeginsWell (circle_reading c.args.table.now.names) 2) (sym (ap (map cert_line) c.in-Some.ensures.steps))
    (BeginsWell-circle c.args.table.now.names (cert_line c.in-Some.first) c.in_ok-count.count (map cert_line c.next.new.self) (sym c.in_ok-count.ensures)
    (ReadsOne-all (arc_reading c.args.table.now.names) c.in_ok-count.count (map cert_line c.next.new.self) c.in_ok-arcs.arcs.items (map cert_line c.read_arcs.new.lines)
    (circle_count-some (cert_line c.in-Some.first) c.in_ok-count.count (sym c.in_ok-count.ensures)) c.in_ok-arcs.ensures.arcs))
