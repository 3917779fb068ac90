use Rattle.std.proofs.Common.{◌<◌, length, sym, ap, subst, ◌∙◌, arith}
use Rattle.std.specs.List.{All}
use Rattle.wq_groups.specs.DeclaredGroups.{declared_waits}
use Rattle.wq_graph.specs.declared.arc.WaitArc.{WaitArc}
use Rattle.wq_core.proofs.Results.{OnErr-holds}
use Rattle.wq_core.proofs.Wirings.{lanes-some}
use Rattle.wq_deadlock.proofs.BareLanes.{IsDeclaration-assigned, items_of_arcs, lanes-arcs, OnErr-some}
use Rattle.wq_deadlock.proofs.bare.bare_waits.Goals as goal

pub returns-in_err-all-clause-memory : goal.returns-in_err-all-clause-memory
returns-in_err-all-clause-memory g c =
    let a = c.args.assigned.now in
    let is = c.table.ensures.assigned in
    let d = declared_waits a.declared in
    let some = rw c.table.ensures.is at c.in_err-all.ensures.memory in
    OnErr-holds c.from_residual.result
    (lanes-some d.group_of d.groups a.workqueues.assignment is.declared.partition.within is.assignment.assignment
    (omega (arith, some, is.declared.one_group_each)))

pub bare_among-requires-clause-src : goal.bare_among-requires-clause-src
bare_among-requires-clause-src g c =
    let d = declared_waits c.args.assigned.now.declared in
    let all = rw (c.table.ensures.is, c.groups.ensures.is) at c.in_ok-all.ensures.arcs in
    subst (All (λ (e : WaitArc). e.src < length d.group_of)) (sym (c.as_slice.ensures.value ∙ all))
    (items_of_arcs d (IsDeclaration-assigned c.args.assigned.now c.table.ensures.assigned)).0

pub bare_among-requires-clause-dst : goal.bare_among-requires-clause-dst
bare_among-requires-clause-dst g c =
    let d = declared_waits c.args.assigned.now.declared in
    let all = rw (c.table.ensures.is, c.groups.ensures.is) at c.in_ok-all.ensures.arcs in
    subst (All (λ (e : WaitArc). e.dst < length d.group_of)) (sym (c.as_slice.ensures.value ∙ all))
    (items_of_arcs d (IsDeclaration-assigned c.args.assigned.now c.table.ensures.assigned)).1

pub returns-clause-memory : goal.returns-clause-memory
returns-clause-memory g c =
    let a = c.args.assigned.now in
    let is = c.table.ensures.assigned in
    let d = declared_waits a.declared in
    let all = rw (c.table.ensures.is, c.groups.ensures.is) at c.in_ok-all.ensures.arcs in
    OnErr-some c.bare_among.result (length c.as_slice.result.now) (0 < a.workqueues.assignment.lanes)
    c.bare_among.ensures.memory (λ some.
    lanes-arcs d a.workqueues.assignment (IsDeclaration-assigned a is) is.assignment.assignment
    (omega (arith, some, ap length (c.as_slice.ensures.value ∙ all))))
