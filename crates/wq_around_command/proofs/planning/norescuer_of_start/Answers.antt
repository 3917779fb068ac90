use Rattle.std.proofs.Common.{◌<◌, List, length, ap, subst, sym, ◌∙◌, arith}
use Rattle.std.specs.List.{All}
use Rattle.std.proofs.lemmas.Result.{IfOk-weaker}
use Rattle.wq_items.specs.Table.{Table}
use Rattle.wq_groups.specs.DeclaredGroups.{declared_waits}
use Rattle.wq_core.specs.declared.step.Step.{Step}
use Rattle.wq_core.specs.Deadlock.{IsSafe}
use Rattle.wq_core.specs.Runs.{HasNoHelp}
use Rattle.wq_core.specs.Workqueues.{Workqueues, wiring_of}
use Rattle.wq_cert.specs.AroundText.{norescuer_text}
use Rattle.wq_cert.specs.RunText.{step_item}
use Rattle.wq_commands.specs.Answer.{ends_of}
use Rattle.wq_commands.proofs.AnswerLemmas.{JoinsItems}
use Rattle.wq_commands.proofs.NamedSteps.{length-hang, step_item-hang}
use Rattle.wq_around_command.proofs.PlannedLemmas.{joins-held, unsafe-start}
use Rattle.wq_around_command.proofs.planning.norescuer_of_start.Goals as goal

pub run_of_start-requires : goal.run_of_start-requires
run_of_start-requires g c =
    let s = c.args.start.now.declared in
    let (f, fixed, is, held) = c.requires in
    subst (λ (ws : Workqueues). ¬ IsSafe (wiring_of (declared_waits s) ws)) (sym is)
    (unsafe-start s c.table-table.ensures.assigned.declared f fixed held.deadlock)

pub norescuer_text-requires-clause-item : goal.norescuer_text-requires-clause-item
norescuer_text-requires-clause-item g c =
    let s = c.args.start.now.declared in
    let (f, fixed, is, held) = c.requires in
    (subst (λ (t : Table). JoinsItems t (ends_of c.args.arc.now)) (sym c.table-table.ensures.is)
    (joins-held s c.table-table.ensures.assigned.declared f fixed c.args.arc.now held)).0

pub norescuer_text-requires-clause-target : goal.norescuer_text-requires-clause-target
norescuer_text-requires-clause-target g c =
    let s = c.args.start.now.declared in
    let (f, fixed, is, held) = c.requires in
    (subst (λ (t : Table). JoinsItems t (ends_of c.args.arc.now)) (sym c.table-table.ensures.is)
    (joins-held s c.table-table.ensures.assigned.declared f fixed c.args.arc.now held)).1

pub norescuer_text-requires-clause-few : goal.norescuer_text-requires-clause-few
norescuer_text-requires-clause-few g c =
    let a = c.args.start.now in
    let is = c.table-table.ensures.assigned in
    omega (
      arith,
      ap length c.deref.ensures.value,
      length-hang a.declared is.declared a.workqueues is.assignment c.in_ok-steps.steps.items
          c.in_ok-steps.ensures.deadlocks,
    )

pub norescuer_text-requires-clause-items : goal.norescuer_text-requires-clause-items
norescuer_text-requires-clause-items g c =
    let a = c.args.start.now in
    let is = c.table-table.ensures.assigned in
    subst (λ (t : Table). All (λ (step : Step). step_item step < length t.names) c.deref.result.now)
    (sym c.table-table.ensures.is)
    (subst (All (λ (step : Step). step_item step < length a.declared.table.names)) (sym c.deref.ensures.value)
    (step_item-hang a.declared is.declared a.workqueues is.assignment c.in_ok-steps.steps.items
    c.in_ok-steps.ensures.deadlocks))

pub norescuer_text-requires-clause-no_help : goal.norescuer_text-requires-clause-no_help
norescuer_text-requires-clause-no_help g c =
    subst HasNoHelp (sym c.deref.ensures.value) c.in_ok-steps.ensures.deadlocks.no_help

pub returns : goal.returns
returns g c =
    let s = c.args.start.now.declared in
    let steps = c.in_ok-steps.steps.items in
    IfOk-weaker c.norescuer_text.result _ _ (λ text printed. (
      steps,
      c.in_ok-steps.ensures,
      printed
          ∙ ap (λ (t : Table). norescuer_text t.names (ends_of c.args.arc.now) c.deref.result.now)
          c.table-table.ensures.is
          ∙ ap (λ (run : List Step). norescuer_text s.table.names (ends_of c.args.arc.now) run) c.deref.ensures.value,
    )) c.norescuer_text.ensures
