use Rattle.std.proofs.Common.{◌≡◌, ◌≤◌, ◌<◌, length, sym, subst, arith}
use Rattle.std.specs.Prelude.{IfOk}
use Rattle.std.specs.List.{All}
use Rattle.wq_items.specs.Table.{Table}
use Rattle.wq_cert.specs.RunText.{run_text, step_item}
use Rattle.wq_core.specs.Assigned.{Assigned, IsAssigned}
use Rattle.wq_commands.proofs.NamedSteps.{step_item-hang, length-hang}
use Rattle.wq_repair_command.proofs.run.text_of_hang.Goals as goal

pub run_text-requires-clause-few : goal.run_text-requires-clause-few
run_text-requires-clause-few g c =
    let a : Assigned = c.args.assigned.now in
    let is : IsAssigned a = c.table.ensures.assigned in
    let few : length c.args.steps.now ≤ 45056 = length-hang a.declared is.declared a.workqueues is.assignment
    c.args.steps.now c.requires.deadlocks in
    omega (arith, few)

pub run_text-requires-clause-items : goal.run_text-requires-clause-items
run_text-requires-clause-items g c =
    let a : Assigned = c.args.assigned.now in
    let is : IsAssigned a = c.table.ensures.assigned in
    subst (λ (t : Table). All (λ step. step_item step < length t.names) c.args.steps.now) (sym c.table.ensures.is)
    (step_item-hang a.declared is.declared a.workqueues is.assignment c.args.steps.now c.requires.deadlocks)

pub returns : goal.returns
returns g c = subst (λ (t : Table). IfOk c.run_text.result (λ text. text.items ≡ run_text t.names c.args.steps.now))
    c.table.ensures.is c.run_text.ensures
