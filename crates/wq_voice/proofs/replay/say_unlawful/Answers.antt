use Rattle.std.proofs.Common.{◌≡◌, ℕ, List, map, ap, subst, ◌∙◌}
use Rattle.std.specs.Prelude.{IfOk, option_map}
use Rattle.wq_names.specs.Names.{names_of}
use Rattle.wq_diagnosis.specs.Reasons.{SaysStep}
use Rattle.wq_diagnosis.proofs.ReadTexts.{limits-read}
use Rattle.wq_voice.proofs.replay.say_unlawful.Goals as goal

pub returns : goal.returns
returns g c =
    let s = c.args.assigned.now.declared in
    let ws = c.args.assigned.now.workqueues in
    let text = c.args.assignment.now in
    let names : map (λ n. n.now) c.deref.result.now ≡ names_of text =
    ap (λ ns. map (λ n. n.now) ns) c.deref.ensures.value
    ∙ c.in_ok-names.ensures (limits-read s.table.names s.partition text ws c.requires.read) in
    subst (λ (ns : List (List ℕ)). IfOk c.of_unlawful.result
    (λ said. SaysStep c.args.run.file.now s ws ns c.args.steps.now c.args.number (option_map (λ v. v.items) said)))
    names c.of_unlawful.ensures
