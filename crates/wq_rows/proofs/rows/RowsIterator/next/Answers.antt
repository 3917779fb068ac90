use Rattle.std.proofs.Common.{List, subst, rules}
use Rattle.std.specs.Iterator.{YieldsFirst}
use Rattle.wq_rows.specs.declared.event.Row.{Row}
use Rattle.wq_rows.specs.Stored.{rows_of}
use Rattle.wq_rows.proofs.StoredLemmas.{first_row, IsStored-after}
use Rattle.wq_rows.proofs.rows.RowsIterator.next.Goals as goal

pub invariant_of-self : goal.invariant_of-self
invariant_of-self c = IsStored-after _ _ _ c.in_ok-row.ensures.cases c.self.invariant

pub returns-clause-steps : goal.returns-clause-steps
returns-clause-steps c =
    subst (λ (rows : List Row). YieldsFirst (λ (rest : List Row). rest) rows c.unpack.result (rows_of c.in_ok-row.rest.now)) c.self.view_is
    (first_row c.self.inside.rest.now c.in_ok-row.row.now c.in_ok-row.rest.now c.unpack.result c.in_ok-row.ensures.cases c.self.invariant c.unpack.ensures.some c.unpack.ensures.none)

pub returns-clause-goes : goal.returns-clause-goes
returns-clause-goes c =
    let e = returns-clause-steps c in
    search rules
