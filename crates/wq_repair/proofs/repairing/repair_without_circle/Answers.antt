use Rattle.std.proofs.Common.{◌≤◌, ℕ, sym, ap, subst, ◌∙◌, arith}
use Rattle.std.specs.Prelude.{max}
use Rattle.wq_groups.specs.DeclaredGroups.{declared_waits}
use Rattle.wq_core.specs.Workqueues.{Workqueues}
use Rattle.wq_deadlock.specs.Judging.{AreSafe, IsHang}
use Rattle.wq_repair.specs.Needed.{NeedsRescuerOf}
use Rattle.wq_repair.specs.Marks.{Marks}
use Rattle.wq_repair.specs.Ready.{IsScope}
use Rattle.wq_repair.proofs.Answered.{AreNamesTooFew-start, IsStart-scope, IsReady-start, CoversRescued-needed}
use Rattle.wq_repair.proofs.repairing.repair_without_circle.Goals as goal

pub scope_of-requires-clause-named : goal.scope_of-requires-clause-named
scope_of-requires-clause-named g c = (c.args.names.now, c.in_ok-named.ensures)

pub start_of-requires : goal.start_of-requires
start_of-requires g c =
    let names = c.args.names.now in (
      names,
      c.in_ok-scope.ensures.scope names c.in_ok-named.ensures
          (CoversRescued-needed (declared_waits c.args.assigned.now.declared) c.args.assigned.now.workqueues names
          c.in_ok-needed.needed.items c.in_ok-needed.ensures),
    )

pub judge_others-requires : goal.judge_others-requires
judge_others-requires g c =
    let scope = c.in_ok-scope.ensures.scope c.args.names.now c.in_ok-named.ensures
    (CoversRescued-needed (declared_waits c.args.assigned.now.declared) c.args.assigned.now.workqueues c.args.names.now
    c.in_ok-needed.needed.items c.in_ok-needed.ensures) in
    c.in_ok-begin.ensures.one_each ∙ scope.are_movable.one_each

pub returns-in-Deadlock : goal.returns-in-Deadlock
returns-in-Deadlock g c =
    let known = c.workqueues_of-few.ensures in
    let d = declared_waits c.args.assigned.now.declared in
    let ws = c.args.assigned.now.workqueues in
    let names = c.args.names.now in
    let s = c.in_ok-scope.scope in
    let begin = c.in_ok-begin.begin in
    let by = c.in_ok-begin.ensures in
    let scope : IsScope d ws names s = c.in_ok-scope.ensures.scope names c.in_ok-named.ensures
    (CoversRescued-needed d ws names c.in_ok-needed.needed.items c.in_ok-needed.ensures) in
    let are_needed : Marks (NeedsRescuerOf d ws names) d.groups s.needed =
    subst (Marks (NeedsRescuerOf d ws names) d.groups) (sym c.in_ok-scope.ensures.needed) c.in_ok-needed.ensures in
    let few : begin.assignment.lanes ≤ 4096 =
    omega (
      arith,
      by.few,
      scope.are_movable.one_each,
      known.few,
      known.assignment.few,
      ap (λ (x : Workqueues). x.assignment.lanes) known.is,
    ) in
    let most : begin.assignment.lanes ≤ max ws.assignment.lanes d.groups =
    subst (λ (n : ℕ). begin.assignment.lanes ≤ max ws.assignment.lanes n) scope.are_movable.one_each by.few in
    let hang : IsHang d begin c.in-Deadlock.steps.items = rw (c.in-Deadlock.is) at c.in_ok-steps.ensures in
    AreNamesTooFew-start d ws begin names known.declaration scope.assignment
    (IsStart-scope d ws begin names s scope are_needed by) few most by.bare c.requires.no_circle
    c.in-Deadlock.steps.items hang

pub better_repair-requires-clause-needed : goal.better_repair-requires-clause-needed
better_repair-requires-clause-needed g c =
    let d = declared_waits c.args.assigned.now.declared in
    subst (Marks (NeedsRescuerOf d c.args.assigned.now.workqueues c.args.names.now) d.groups)
    (sym c.in_ok-scope.ensures.needed) c.in_ok-needed.ensures

pub better_repair-requires-clause-ready : goal.better_repair-requires-clause-ready
better_repair-requires-clause-ready g c =
    let d = declared_waits c.args.assigned.now.declared in
    let ws = c.args.assigned.now.workqueues in
    let names = c.args.names.now in
    let scope = c.in_ok-scope.ensures.scope names c.in_ok-named.ensures
    (CoversRescued-needed d ws names c.in_ok-needed.needed.items c.in_ok-needed.ensures) in
    let safe : AreSafe d c.in_ok-begin.begin = rw (c.in-Safe.is) at c.in_ok-steps.ensures in
    IsReady-start d ws c.in_ok-begin.begin names c.in_ok-scope.scope scope
    (subst (Marks (NeedsRescuerOf d ws names) d.groups) (sym c.in_ok-scope.ensures.needed) c.in_ok-needed.ensures)
    c.in_ok-begin.ensures c.workqueues_of-few.ensures.declaration safe.safe

pub returns : goal.returns
returns g c = c.in_ok-new-in-Safe.ensures
