use Rattle.std.proofs.Common.{refl, sym, subst}
use Rattle.wq_groups.specs.DeclaredGroups.{declared_waits}
use Rattle.wq_core.specs.Held.{Machine}
use Rattle.wq_core.specs.Knot.{IsKnot}
use Rattle.wq_core.proofs.Results.{OnErr-holds}
use Rattle.wq_deadlock.specs.CircleRun.{IsRunOf}
use Rattle.wq_deadlock.specs.Judging.{bare_waits}
use Rattle.wq_deadlock.proofs.BareLanes.{IsDeclaration-assigned, IsKnot-first, few-first, lanes-first, IsHang-run}
use Rattle.wq_deadlock.proofs.workqueues.hang.Goals as goal

pub hanging_run-requires-clause-empty : goal.hanging_run-requires-clause-empty
hanging_run-requires-clause-empty g c = rw c.in_ok-core.ensures.machine refl

pub hanging_run-requires-clause-knot : goal.hanging_run-requires-clause-knot
hanging_run-requires-clause-knot g c =
    let a = c.args.assigned.now in
    let is = c.table.ensures.assigned in
    let d = declared_waits a.declared in
    let knot = IsKnot-first d a.workqueues (IsDeclaration-assigned a is) is.assignment.assignment
    (bare_waits d a.workqueues) refl c.args.first.now c.requires.first in
    let machine = rw (c.table.ensures.is, c.groups.ensures.is, c.workqueues.ensures.is) at c.in_ok-core.ensures.machine
    in
    subst (λ (m : Machine). IsKnot m.wiring c.args.first.now) (sym machine) knot

pub hanging_run-requires-clause-few : goal.hanging_run-requires-clause-few
hanging_run-requires-clause-few g c =
    let a = c.args.assigned.now in
    let is = c.table.ensures.assigned in
    let d = declared_waits a.declared in
    few-first d a.workqueues (IsDeclaration-assigned a is) is.assignment.assignment is.assignment.few
    (bare_waits d a.workqueues) c.args.first.now c.requires.first

pub returns-in_err-steps-clause-memory : goal.returns-in_err-steps-clause-memory
returns-in_err-steps-clause-memory g c =
    let a = c.args.assigned.now in
    let is = c.table.ensures.assigned in
    let d = declared_waits a.declared in
    let declaration = IsDeclaration-assigned a is in
    let knot = IsKnot-first d a.workqueues declaration is.assignment.assignment (bare_waits d a.workqueues) refl
    c.args.first.now c.requires.first in
    OnErr-holds c.from_residual-in_err-steps.result
    (lanes-first d a.workqueues declaration is.assignment.assignment c.args.first.now knot)

pub returns-clause-verdict : goal.returns-clause-verdict
returns-clause-verdict g c =
    let a = c.args.assigned.now in
    let is = c.table.ensures.assigned in
    let machine = rw (c.table.ensures.is, c.groups.ensures.is, c.workqueues.ensures.is) at c.in_ok-core.ensures.machine
    in
    let run = subst (λ (m : Machine). IsRunOf m.wiring c.args.first.now c.in_ok-steps.steps.items) machine
    c.in_ok-steps.ensures in
    IsHang-run (declared_waits a.declared) a.workqueues (IsDeclaration-assigned a is)
    is.assignment.assignment c.args.first.now c.in_ok-steps.steps.items c.requires.first run
