use Rattle.std.proofs.Common.{◌≡◌, ℕ, List, map, ap, subst, ◌∙◌}
use Rattle.std.specs.Prelude.{IfOk}
use Rattle.wq_names.specs.Names.{names_of}
use Rattle.wq_diagnosis.proofs.ReadTexts.{limits-read}
use Rattle.wq_changes.specs.Told.{TellsChanges}
use Rattle.wq_changes.proofs.answer.of_repaired.Goals as goal

pub returns : goal.returns
returns g c =
    let s = c.args.old.now.declared in
    let old = c.args.old.now.workqueues in
    let text = c.args.assignment.text.now in
    let names : map (λ n. n.now) c.deref.result.now ≡ names_of text =
    ap (λ ns. map (λ n. n.now) ns) c.deref.ensures.value
    ∙ c.in_ok-names.ensures (limits-read s.table.names s.partition text old c.requires.read) in
    subst (λ (ns : List (List ℕ)). IfOk c.of_changes.result
    (λ said. TellsChanges c.args.declaration.file.now c.args.assignment.file.now s ns old c.args.new.now said.items))
    names c.of_changes.ensures
