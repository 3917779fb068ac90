use Rattle.std.proofs.Common.{◌≡◌, ◌++◌, take}
use Rattle.std.specs.Prelude.{filter_map}
use Rattle.wq_cert.specs.Part.{unsure_at, unsure_line}
use Rattle.wq_cert.proofs.LineLemmas.{lines}
use Rattle.wq_cert.proofs.part_printing.put_unsure_lines.Given as goal

abbrev pub invariant-loop-place : goal.invariant-loop-place
invariant-loop-place g l =
    l.out.items ≡ l.fn.out.items ++ lines (unsure_line l.table.names)
    (filter_map (unsure_at l.table.waits) (take l.place-index l.kept))
