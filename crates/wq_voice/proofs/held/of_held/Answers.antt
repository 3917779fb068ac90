use Rattle.std.proofs.Common.{◌≡◌, ◌++◌, ℕ, List, Vec, map, ap, subst, ◌∙◌}
use Rattle.std.proofs.lemmas.Result.{IfOk-weaker}
use Rattle.wq_graph.specs.declared.arc.WaitArc.{WaitArc}
use Rattle.wq_groups.specs.DeclaredGroups.{Declared}
use Rattle.wq_names.specs.Messages.{to_what_is_named}
use Rattle.wq_voice.specs.Unsure.{IsNoDifference}
use Rattle.wq_voice.proofs.held.of_held.Goals as goal

pub returns : goal.returns
returns g c =
    let file = c.args.subject.now.declaration.file.now in
    let s : Declared = c.args.subject.now.assigned.now.declared in
    let held = c.args.held.now in
    let arcs_of : Vec WaitArc g.row.A.Denot → List WaitArc = λ v. v.items in
    let components : List (List WaitArc) = map arcs_of held.components.items in
    let all : map arcs_of c.as_slice-3.result.now ≡ components = ap (map arcs_of) c.as_slice-3.ensures.value in
    let arcs : c.as_slice-4.result.now ≡ held.waits.items ++ held.ways.items =
    c.as_slice-4.ensures.value ∙ c.in_ok-extend_from_slice.ensures.items
    ∙ ap (λ (l : List WaitArc). l ++ c.as_slice-2.result.now) (c.in_ok-arcs.ensures.items ∙ c.as_slice.ensures.value)
    ∙ ap (λ (l : List WaitArc). held.waits.items ++ l) c.as_slice-2.ensures.value in
    IfOk-weaker c.of_idle.result _ _ (λ note is.
    subst (λ (l : List WaitArc). IsNoDifference file to_what_is_named s components l note.items) arcs
    (subst (λ (lists : List (List WaitArc)). IsNoDifference file to_what_is_named s lists c.as_slice-4.result.now
    note.items) all is)) c.of_idle.ensures
