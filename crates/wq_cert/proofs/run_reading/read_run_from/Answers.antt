use Rattle.std.proofs.Common.{map, Err, sym, ap}
use Rattle.wq_cert.specs.Lines.{cert_line}
use Rattle.wq_cert.specs.declared.fault.CertError.TheVariants.{OutOfMemory}
use Rattle.wq_cert.proofs.GrowthLemmas.{Err-passed, BeginsWell-run}
use Rattle.wq_cert.proofs.run_reading.read_run_from.Goals as goal

pub returns-in_err-steps-clause-memory : goal.returns-in_err-steps-clause-memory
returns-in_err-steps-clause-memory g c =
    λ e. BeginsWell-run c.args.table.now.names (cert_line c.args.first.now) c.in_ok-count.count (map cert_line c.args.lines) (sym c.in_ok-count.ensures)
    (c.in_err-steps.ensures.memory (ap Err (Err-passed _ _ OutOfMemory c.from_residual-in_err-steps.ensures.1 e)))
