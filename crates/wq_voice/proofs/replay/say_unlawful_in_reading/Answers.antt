use Rattle.std.proofs.Common.{◌≡◌, ℕ, List, Option, Ok, sym, ap, subst, ◌∙◌}
use Rattle.std.specs.Prelude.{option_map, IfOk}
use Rattle.wq_core.specs.declared.step.Step.{Step}
use Rattle.wq_core.specs.Assigned.{Assigned}
use Rattle.wq_core.specs.Workqueues.{Workqueues}
use Rattle.wq_groups.specs.DeclaredGroups.{reading_with_names, Declared}
use Rattle.wq_cert.specs.Part.{made_of}
use Rattle.wq_names.specs.Names.{names_of}
use Rattle.wq_diagnosis.specs.Reasons.{SaysStep}
use Rattle.wq_voice.specs.Voice.{declared_read}
use Rattle.wq_voice.proofs.replay.say_unlawful_in_reading.Goals as goal

pub say_unlawful-requires-clause-run : goal.say_unlawful-requires-clause-run
say_unlawful-requires-clause-run g c =
    let s : Declared = c.args.assigned.now.declared in
    let text = c.args.run.text.now in
    let kept : Option (List ℕ) = option_map (λ places. places.items) c.args.replayed.now.kept in
    let names : c.new-read.result.declared.table.names ≡ s.table.names =
    ap (λ (a : Assigned). a.declared.table.names) c.new-read.ensures
    ∙ ap (λ (d : Declared). d.table.names) c.in_ok-reading-in-Some.ensures
    ∙ ap (λ (a : Assigned). a.declared.table.names) c.assigned.view_is in (
      s.table.waits,
      kept,
      ap (λ (ns : List (List ℕ)). made_of ns s.table.waits text) names ∙ c.requires.run
          ∙ ap (λ (steps : List Step). Ok (kept, steps)) (sym c.deref.ensures.value),
    )

pub returns-in_ok-reading-in-Some : goal.returns-in_ok-reading-in-Some
returns-in_ok-reading-in-Some g c =
    let s : Declared = c.args.assigned.now.declared in
    let ws : Workqueues = c.args.assigned.now.workqueues in
    let file = c.args.run.file.now in
    let names = names_of c.args.assignment.now in
    let kept : List ℕ = c.in-Some.kept.items in
    let steps : List Step = c.args.replayed.now.steps.items in
    let read : c.new-read.result.declared ≡ reading_with_names s kept =
    ap (λ (a : Assigned). a.declared) c.new-read.ensures ∙ c.in_ok-reading-in-Some.ensures
    ∙ ap (reading_with_names c.assigned.inside.declared.now) c.as_slice.ensures.value
    ∙ ap (λ (a : Assigned). reading_with_names a.declared kept) c.assigned.view_is in
    let on : c.new-read.result.workqueues ≡ ws =
    ap (λ (a : Assigned). a.workqueues) c.new-read.ensures ∙ c.workqueues.ensures.is in
    rw c.in-Some.is
    (subst (λ (d : Declared). IfOk c.say_unlawful.result (λ said.
    SaysStep file d ws names steps c.args.number (option_map (λ v. v.items) said))) read
    (subst (λ (w : Workqueues). IfOk c.say_unlawful.result (λ said.
    SaysStep file c.new-read.result.declared w names steps c.args.number (option_map (λ v. v.items) said))) on
    (subst (λ (l : List Step). IfOk c.say_unlawful.result (λ said.
    SaysStep file c.new-read.result.declared c.new-read.result.workqueues names l c.args.number
    (option_map (λ v. v.items) said))) c.deref.ensures.value c.say_unlawful.ensures)))

pub returns-in-None : goal.returns-in-None
returns-in-None g c =
    let s : Declared = c.args.assigned.now.declared in
    let ws : Workqueues = c.args.assigned.now.workqueues in
    let file = c.args.run.file.now in
    let names = names_of c.args.assignment.now in
    rw c.in-None.is
    (subst (λ (l : List Step). IfOk c.say_unlawful-in-None.result (λ said.
    SaysStep file s ws names l c.args.number (option_map (λ v. v.items) said))) c.deref-in-None.ensures.value
    c.say_unlawful-in-None.ensures)
