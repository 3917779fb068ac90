use Rattle.std.proofs.Common.{◌≡◌, ◌*◌, ◌/◌, List, length, ap, ◌∙◌, arith}
use Rattle.wq_rows.specs.declared.event.Row.{Row}
use Rattle.wq_rows.specs.Stored.{rows_of}
use Rattle.wq_rows.proofs.StoredLemmas.{IsStored-length}
use Rattle.wq_rows.proofs.rows.Rows.len.Goals as goal

pub returns : goal.returns
returns c =
    let bytes = c.self.inside.rest.now in
    let len : length bytes ≡ 12 * length (rows_of bytes) = IsStored-length bytes (rows_of bytes) c.self.invariant in
    let count : length bytes / 12 ≡ length (rows_of bytes) = omega arith in
    count ∙ ap (λ (rows : List Row). length rows) c.self.view_is
