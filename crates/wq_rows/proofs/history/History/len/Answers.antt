use Rattle.std.proofs.Common.{◌≡◌, ◌*◌, ◌/◌, length, ap, ◌∙◌, subst, arith}
use Rattle.wq_rows.specs.Stored.{rows_of, HistoryView, IsHistory}
use Rattle.wq_rows.proofs.StoredLemmas.{IsStored-length, IsRoomy-history}
use Rattle.wq_rows.proofs.history.History.len.Goals as goal

pub returns-clause-rows : goal.returns-clause-rows
returns-clause-rows g c =
    let bytes = c.self.inside.bytes.items in
    let len : length bytes ≡ 12 * length (rows_of bytes) = IsStored-length bytes (rows_of bytes) c.self.invariant.stored in
    let count : c.len.result / 12 ≡ length (rows_of bytes) = omega (arith, c.len.ensures) in
    count ∙ ap (λ (h : HistoryView). length h.rows) c.self.view_is

pub returns-clause-history : goal.returns-clause-history
returns-clause-history g c = subst IsHistory c.self.view_is (IsRoomy-history _ _ _ c.self.invariant)
