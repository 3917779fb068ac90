use Rattle.std.proofs.Common.{◌<◌, ap, subst, inl, inr, arith}
use Rattle.std.proofs.lemmas.Result.{err_from_is_err_and}
use Rattle.wq_history.proofs.Words.{Wiring, IsWiring, items}
use Rattle.wq_held.specs.Locked.{slots}
use Rattle.wq_held.proofs.RefusedMaking.{some_lanes}
use Rattle.wq_api.proofs.runtime.WqRuntime.with_helpers.Goals as goal

-- where there are items, there are lanes
pub returns-in_err-layout-clause-refused : goal.returns-in_err-layout-clause-refused
returns-in_err-layout-clause-refused g c =
    let w : Wiring = g.N.Naming.wiring in
    let sound : IsWiring w = subst IsWiring c.holds.ensures.of_wiring c.holds.ensures.legal.wiring in
    let some : 0 < slots w = elim c.in_err-layout.ensures.memory [
      | inl there ↦ omega (arith, there, c.lanes-lanes.ensures.lanes, ap (λ (x : Wiring). x.lanes) c.requires.of_wiring)
      | inr there ↦ omega (arith, there, c.len-items.ensures.len, c.len-items.ensures.table.one_list_each, ap items c.requires.of_wiring)
    ] in
    let made = c.in_ok-held.ensures.made in
    let p = err_from_is_err_and c.from_residual-in_err-layout.result c.from_residual-in_err-layout.ensures.1 in
    rw (p.1, p.2) (made.few_lanes, made.few_rows, made.few_helpers, inl (some_lanes w sound some))

pub returns-in_err-condvars-clause-refused : goal.returns-in_err-condvars-clause-refused
returns-in_err-condvars-clause-refused g c =
    let w : Wiring = g.N.Naming.wiring in
    let sound : IsWiring w = subst IsWiring c.holds.ensures.of_wiring c.holds.ensures.legal.wiring in
    let some : 0 < slots w = elim c.in_err-condvars.ensures.memory [
      | inl there ↦ omega (arith, there, c.lanes-lanes.ensures.lanes, ap (λ (x : Wiring). x.lanes) c.requires.of_wiring)
      | inr there ↦ omega (arith, there, c.len-items.ensures.len, c.len-items.ensures.table.one_list_each, ap items c.requires.of_wiring)
    ] in
    let made = c.in_ok-held.ensures.made in
    let p = err_from_is_err_and c.from_residual-in_err-condvars.result c.from_residual-in_err-condvars.ensures.1 in
    rw (p.1, p.2) (made.few_lanes, made.few_rows, made.few_helpers, inl (some_lanes w sound some))
