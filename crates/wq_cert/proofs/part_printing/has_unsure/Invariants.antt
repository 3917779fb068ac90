use Rattle.std.proofs.Common.{◌≡◌, false, take}
use Rattle.wq_cert.specs.Part.{has_unsure}
use Rattle.wq_cert.proofs.part_printing.has_unsure.Given as goal

abbrev pub invariant-loop-number : goal.invariant-loop-number
invariant-loop-number g l = has_unsure (take l.number l.table.waits) ≡ false
