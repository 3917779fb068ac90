use Rattle.std.proofs.Common.{◌≡◌, ℕ, ◌<◌, List, length, map, Some, sym, ap, subst, ◌∙◌, arith}
use Rattle.std.specs.List.{All}
use Rattle.std.proofs.lemmas.Result.{IfOk-weaker}
use Rattle.wq_items.specs.Table.{Table}
use Rattle.wq_core.specs.declared.step.Step.{Step}
use Rattle.wq_core.specs.Runs.{HasNoHelp}
use Rattle.wq_core.specs.Wiring.{own_lanes}
use Rattle.wq_cert.specs.CircleText.{circle_text}
use Rattle.wq_cert.specs.RunText.{step_item}
use Rattle.wq_commands.specs.Answer.{ends_of}
use Rattle.wq_groups.specs.DeclaredGroups.{Declared, IsSound}
use Rattle.wq_commands.proofs.AnswerLemmas.{ArePrintable, ArePrintable-walked}
use Rattle.wq_commands.proofs.CircleRuns.{IsAssignmentOf-own_lanes}
use Rattle.wq_commands.proofs.NamedSteps.{step_item-deadlock, length-deadlock}
use Rattle.wq_commands.proofs.answer.text_of_circle.Goals as goal

pub circle_text-requires-clause-few : goal.circle_text-requires-clause-few
circle_text-requires-clause-few g c =
    let s = c.args.declared.now in
    let sound : IsSound s = subst IsSound c.declared.view_is c.declared.invariant in
    omega (arith, (ArePrintable-walked s c.args.arcs.now _ sound c.requires.circled.walked (c.deref.ensures.value ∙ c.in_ok-ends.ensures)).few)

pub circle_text-requires-clause-items : goal.circle_text-requires-clause-items
circle_text-requires-clause-items g c =
    let s = c.args.declared.now in
    let sound : IsSound s = subst IsSound c.declared.view_is c.declared.invariant in
    let same : c.declared.inside.table ≡ s.table = ap (λ (d : Declared). d.table) c.declared.view_is in
    (subst (λ (t : Table). ArePrintable t c.deref.result.now) (sym same)
    (ArePrintable-walked s c.args.arcs.now _ sound c.requires.circled.walked
    (c.deref.ensures.value ∙ c.in_ok-ends.ensures))).items

pub circle_text-requires-clause-few_steps : goal.circle_text-requires-clause-few_steps
circle_text-requires-clause-few_steps g c =
    let s = c.args.declared.now in
    let sound : IsSound s = subst IsSound c.declared.view_is c.declared.invariant in
    omega (
      arith,
      ap length c.as_slice.ensures.value,
      length-deadlock s sound (own_lanes s.partition.groups)
          (IsAssignmentOf-own_lanes s sound) c.in_ok-steps.steps.items c.in_ok-steps.ensures.deadlocks,
    )

pub circle_text-requires-clause-step_items : goal.circle_text-requires-clause-step_items
circle_text-requires-clause-step_items g c =
    let s = c.args.declared.now in
    let sound : IsSound s = subst IsSound c.declared.view_is c.declared.invariant in
    let same : c.declared.inside.table ≡ s.table = ap (λ (d : Declared). d.table) c.declared.view_is in
    subst (λ (t : Table). All (λ (step : Step). step_item step < length t.names) c.as_slice.result.now) (sym same)
    (subst (All (λ (step : Step). step_item step < length s.table.names)) (sym c.as_slice.ensures.value)
    (step_item-deadlock s sound (own_lanes s.partition.groups) (IsAssignmentOf-own_lanes s sound)
    c.in_ok-steps.steps.items c.in_ok-steps.ensures.deadlocks))

pub circle_text-requires-clause-no_help : goal.circle_text-requires-clause-no_help
circle_text-requires-clause-no_help g c =
    subst HasNoHelp (sym c.as_slice.ensures.value) c.in_ok-steps.ensures.deadlocks.no_help

pub returns : goal.returns
returns g c =
    let s = c.args.declared.now in
    let sound : IsSound s = subst IsSound c.declared.view_is c.declared.invariant in
    let same : c.declared.inside.table ≡ s.table = ap (λ (d : Declared). d.table) c.declared.view_is in
    let circle = c.args.arcs.now in
    let steps = c.in_ok-steps.steps.items in
    let ends : c.deref.result.now ≡ map ends_of circle = c.deref.ensures.value ∙ c.in_ok-ends.ensures in
    IfOk-weaker c.circle_text.result _ _ (λ text printed. record {
      circle = circle;
      walked = c.requires.circled.walked;
      steps = steps;
      is_run = c.in_ok-steps.ensures.run;
      text =
          printed
          ∙ ap (λ (t : Table). circle_text t.names c.deref.result.now (Some c.as_slice.result.now)) same
          ∙ ap (λ (arcs : List (ℕ × ℕ)). circle_text s.table.names arcs (Some c.as_slice.result.now)) ends
          ∙ ap (λ (run : List Step). circle_text s.table.names (map ends_of circle) (Some run)) c.as_slice.ensures.value;
    }) c.circle_text.ensures
