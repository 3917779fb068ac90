use Rattle.std.proofs.Common.{◌≡◌, List, Vec, map, ap, subst, ◌∙◌}
use Rattle.std.proofs.lemmas.Result.{IfOk-weaker}
use Rattle.wq_graph.specs.declared.arc.WaitArc.{WaitArc}
use Rattle.wq_groups.specs.DeclaredGroups.{Declared}
use Rattle.wq_names.specs.Messages.{on_these}
use Rattle.wq_voice.specs.Unsure.{IsNoDifference}
use Rattle.wq_voice.proofs.unsure.of_workqueues.Goals as goal

pub returns : goal.returns
returns g c =
    let file = c.args.subject.now.declaration.file.now in
    let s : Declared = c.args.subject.now.assigned.now.declared in
    let arcs_of : Vec WaitArc g.row.A.Denot → List WaitArc = λ v. v.items in
    let components : List (List WaitArc) = map arcs_of c.in_ok-components.components.items in
    let all : map arcs_of c.as_slice.result.now ≡ components = ap (map arcs_of) c.as_slice.ensures.value in
    IfOk-weaker c.of_idle.result _ _ (λ note is. (
      components,
      c.in_ok-components.ensures.components,
      subst (λ (waits : List WaitArc). IsNoDifference file on_these s components waits note.items)
          (c.as_slice-2.ensures.value ∙ c.in_ok-waits.ensures.arcs)
          (subst (λ (lists : List (List WaitArc)). IsNoDifference file on_these s lists c.as_slice-2.result.now
          note.items) all is),
    )) c.of_idle.ensures
