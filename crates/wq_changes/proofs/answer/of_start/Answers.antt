use Rattle.std.proofs.Common.{◌≡◌, ℕ, List, map, ap, subst, ◌∙◌}
use Rattle.std.specs.Prelude.{IfOk}
use Rattle.wq_names.specs.Names.{names_of}
use Rattle.wq_changes.specs.Few.{TellsFew}
use Rattle.wq_changes.proofs.answer.of_start.Goals as goal

pub returns : goal.returns
returns g c =
    let s = c.args.start.now.declared in
    let text = c.args.assignment.text.now in
    let names : map (λ n. n.now) c.deref.result.now ≡ names_of text =
    ap (λ ns. map (λ n. n.now) ns) c.deref.ensures.value ∙ c.in_ok-names.ensures c.requires in
    subst (λ (ns : List (List ℕ)). IfOk c.of_few.result
    (λ said. TellsFew c.args.declaration.file.now c.args.assignment.file.now s ns c.args.start.now.workqueues
    said.items))
    names c.of_few.ensures
