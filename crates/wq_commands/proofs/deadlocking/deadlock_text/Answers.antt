use Rattle.std.proofs.Common.{◌≤◌, length, arith}
use Rattle.wq_commands.proofs.NamedSteps.{step_item-hang, length-hang}
use Rattle.wq_commands.proofs.deadlocking.deadlock_text.Goals as goal

pub run_text-requires-clause-few : goal.run_text-requires-clause-few
run_text-requires-clause-few g c =
    let a = c.args.assigned.now in
    let is = c.table.ensures.assigned in
    let few : length c.args.steps.now ≤ 45056 = length-hang a.declared is.declared a.workqueues is.assignment
    c.args.steps.now c.requires.deadlocks in
    omega (arith, few)

pub run_text-requires-clause-items : goal.run_text-requires-clause-items
run_text-requires-clause-items g c =
    let a = c.args.assigned.now in
    let is = c.table.ensures.assigned in
    rw c.table.ensures.is
    (step_item-hang a.declared is.declared a.workqueues is.assignment c.args.steps.now c.requires.deadlocks)
