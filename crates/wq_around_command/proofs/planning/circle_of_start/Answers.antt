use Rattle.std.proofs.Common.{◌≡◌, ℕ, ◌<◌, List, length, map, Some, ap, subst, sym, ◌∙◌, arith}
use Rattle.std.specs.List.{All}
use Rattle.std.proofs.lemmas.Result.{IfOk-weaker}
use Rattle.wq_items.specs.Table.{Table}
use Rattle.wq_groups.specs.DeclaredGroups.{declared_waits}
use Rattle.wq_core.specs.declared.step.Step.{Step}
use Rattle.wq_core.specs.Deadlock.{IsSafe}
use Rattle.wq_core.specs.Runs.{HasNoHelp}
use Rattle.wq_core.specs.Workqueues.{Workqueues, wiring_of}
use Rattle.wq_cert.specs.CircleText.{circle_text}
use Rattle.wq_cert.specs.RunText.{step_item}
use Rattle.wq_commands.specs.Answer.{ends_of}
use Rattle.wq_commands.proofs.AnswerLemmas.{ArePrintable}
use Rattle.wq_commands.proofs.NamedSteps.{length-hang, step_item-hang}
use Rattle.wq_around_command.proofs.PlannedLemmas.{ArePrintable-circled, unsafe-start}
use Rattle.wq_around_command.proofs.planning.circle_of_start.Goals as goal

pub run_of_start-requires : goal.run_of_start-requires
run_of_start-requires g c =
    let s = c.args.start.now.declared in
    let (f, fixed, is, circled) = c.requires in
    subst (λ (ws : Workqueues). ¬ IsSafe (wiring_of (declared_waits s) ws)) (sym is)
    (unsafe-start s c.table-table.ensures.assigned.declared f fixed circled.deadlock)

pub circle_text-requires-clause-few : goal.circle_text-requires-clause-few
circle_text-requires-clause-few g c =
    let s = c.args.start.now.declared in
    let (f, fixed, is, circled) = c.requires in
    let ends = c.deref.ensures.value ∙ c.in_ok-ends.ensures in
    omega (
      arith,
      (ArePrintable-circled s c.table-table.ensures.assigned.declared f fixed c.args.arcs.now _ circled
          ends).few,
    )

pub circle_text-requires-clause-items : goal.circle_text-requires-clause-items
circle_text-requires-clause-items g c =
    let s = c.args.start.now.declared in
    let (f, fixed, is, circled) = c.requires in
    let ends = c.deref.ensures.value ∙ c.in_ok-ends.ensures in
    (subst (λ (t : Table). ArePrintable t c.deref.result.now) (sym c.table-table.ensures.is)
    (ArePrintable-circled s c.table-table.ensures.assigned.declared f fixed c.args.arcs.now _ circled ends)).items

pub circle_text-requires-clause-few_steps : goal.circle_text-requires-clause-few_steps
circle_text-requires-clause-few_steps g c =
    let a = c.args.start.now in
    let is = c.table-table.ensures.assigned in
    omega (
      arith,
      ap length c.as_slice.ensures.value,
      length-hang a.declared is.declared a.workqueues is.assignment c.in_ok-steps.steps.items
          c.in_ok-steps.ensures.deadlocks,
    )

pub circle_text-requires-clause-step_items : goal.circle_text-requires-clause-step_items
circle_text-requires-clause-step_items g c =
    let a = c.args.start.now in
    let is = c.table-table.ensures.assigned in
    subst (λ (t : Table). All (λ (step : Step). step_item step < length t.names) c.as_slice.result.now)
    (sym c.table-table.ensures.is)
    (subst (All (λ (step : Step). step_item step < length a.declared.table.names)) (sym c.as_slice.ensures.value)
    (step_item-hang a.declared is.declared a.workqueues is.assignment c.in_ok-steps.steps.items
    c.in_ok-steps.ensures.deadlocks))

pub circle_text-requires-clause-no_help : goal.circle_text-requires-clause-no_help
circle_text-requires-clause-no_help g c =
    subst HasNoHelp (sym c.as_slice.ensures.value) c.in_ok-steps.ensures.deadlocks.no_help

pub returns : goal.returns
returns g c =
    let s = c.args.start.now.declared in
    let steps = c.in_ok-steps.steps.items in
    let ends : c.deref.result.now ≡ map ends_of c.args.arcs.now = c.deref.ensures.value ∙ c.in_ok-ends.ensures in
    IfOk-weaker c.circle_text.result _ _ (λ text printed. (
      steps,
      c.in_ok-steps.ensures,
      printed ∙ ap (λ (t : Table). circle_text t.names c.deref.result.now (Some c.as_slice.result.now))
          c.table-table.ensures.is
          ∙ ap (λ (arcs : List (ℕ × ℕ)). circle_text s.table.names arcs (Some c.as_slice.result.now)) ends
          ∙ ap (λ (run : List Step). circle_text s.table.names (map ends_of c.args.arcs.now) (Some run))
          c.as_slice.ensures.value,
    )) c.circle_text.ensures
