use Rattle.std.proofs.Common.{◌≡◌, None, take}
use Rattle.std.specs.Prelude.{find}
use Rattle.wq_cert.proofs.ReadParts.{is_open}
use Rattle.wq_cert.proofs.part_reading.stood_for.Given as goal

abbrev pub invariant-loop-target : goal.invariant-loop-target
invariant-loop-target g l =
    find (is_open l.marks (l.form.whole, (l.form.item, l.form.target))) (take l.target-index l.target-items) ≡ None
