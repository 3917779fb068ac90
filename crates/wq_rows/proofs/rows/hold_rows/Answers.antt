use Rattle.std.proofs.Common.{List, sym, ap, ◌∙◌}
use Rattle.std.proofs.lemmas.Bool.{eqb-true, eqb-false, OnTrue_from, OnFalse_from}
use Rattle.std.specs.Prelude.{not}
use Rattle.wq_rows.specs.declared.event.Row.{Row}
use Rattle.wq_rows.specs.Packing.{IsPackedRow}
use Rattle.wq_rows.specs.Stored.{IsStored}
use Rattle.wq_rows.proofs.StoredLemmas.{said_of_none, said_of_some, LeadsOn-no_row, LeadsOn-next, LeadsOn-done, LeadsOn-short}
use Rattle.wq_rows.proofs.rows.hold_rows.Goals as goal

pub returns-then-is_none-clause-no : goal.returns-then-is_none-clause-no
returns-then-is_none-clause-no c =
    let none : (row : Row) → IsPackedRow c.in-Some.row.now row → ⊥ = said_of_none c.unpack.result _ (c.is_none.ensures ∙ ap not c.if-is_none.true) c.unpack.ensures.none in
    LeadsOn-no_row _ _ _ _ c.in-Some.ensures.cases none c.loop-row.invariant

pub loop-row-preserved : goal.loop-row-preserved
loop-row-preserved c =
    let some = said_of_some c.unpack.result (IsPackedRow c.in-Some.row.now) (c.is_none.ensures ∙ ap not c.if-is_none.false) c.unpack.ensures.some in
    LeadsOn-next _ _ _ _ some.0 c.in-Some.ensures.cases some.1 c.loop-row.invariant

pub returns-clause-yes : goal.returns-clause-yes
returns-clause-yes c = OnTrue_from _ _ (λ empty. LeadsOn-done _ _ (eqb-true _ _ (sym c.is_empty.ensures ∙ empty)) c.loop-row.invariant)

pub returns-clause-no : goal.returns-clause-no
returns-clause-no c = OnFalse_from c.is_empty.result ((rows : List Row) → ¬ IsStored c.args.bytes.now rows) (λ more rows stored. eqb-false _ _ (sym c.is_empty.ensures ∙ more) (LeadsOn-short _ _ c.in_default.ensures.cases c.loop-row.invariant rows stored))
