use Rattle.std.proofs.Common.{◌≡◌, ℕ, List, map, ap, subst, ◌∙◌}
use Rattle.std.specs.Prelude.{IfOk}
use Rattle.wq_names.specs.Names.{names_of}
use Rattle.wq_names.specs.Messages.{on_these}
use Rattle.wq_voice.specs.Unsure.{TellsComponents}
use Rattle.wq_voice.specs.Waits.{words_of}
use Rattle.wq_voice.specs.declared.waits.Wording.TheVariants.{OnWorkqueues}
use Rattle.wq_diagnosis.proofs.ReadTexts.{limits-read}
use Rattle.wq_voice.proofs.circles.of_read.Goals as goal

pub returns : goal.returns
returns g c =
    let s = c.args.assigned.now.declared in
    let circling = c.args.circling.now in
    let ws = c.args.assigned.now.workqueues in
    let text = c.args.assignment.text.now in
    let names : map (λ n. n.now) c.deref.result.now ≡ names_of text =
    ap (λ ns. map (λ n. n.now) ns) c.deref.ensures.value
    ∙ c.in_ok-names.ensures (limits-read s.table.names s.partition text ws c.requires.read) in
    subst (λ (ns : List (List ℕ)). IfOk c.of_components.result
    (λ said. TellsComponents c.args.declaration.file.now on_these (λ h. words_of OnWorkqueues s ws ns h) s ws
    (map (λ l. l.items) circling.components.items) circling.waits.items said.items))
    names (rw (c.deref-2.ensures.value, c.deref-3.ensures.value) at c.of_components.ensures)
