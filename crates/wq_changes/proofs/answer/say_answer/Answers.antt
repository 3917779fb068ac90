use Rattle.std.proofs.Common.{List, length, refl, sym, subst}
use Rattle.wq_groups.specs.Declaration.{IsDeclaration, declaration_of}
use Rattle.wq_groups.proofs.Declarations.{IsDeclaration-of}
use Rattle.wq_graph.specs.declared.arc.WaitArc.{WaitArc}
use Rattle.wq_core.specs.Assigned.{Assigned}
use Rattle.wq_circles.specs.ComponentsText.{AreBetween}
use Rattle.wq_repair.specs.Repair.{IsNeededCircle}
use Rattle.wq_diagnosis.proofs.ReadTexts.{limits-read}
use Rattle.wq_changes.specs.Circles.{TellsCircle}
use Rattle.wq_changes.proofs.Circled.{AreBetween-walked}
use Rattle.wq_changes.proofs.answer.say_answer.Goals as goal

pub of_start-requires : goal.of_start-requires
of_start-requires g c =
    let s = c.args.assigned.now.declared in
    limits-read s.table.names s.partition c.args.assignment.text.now c.args.assigned.now.workqueues c.requires.read

pub of_circle-requires : goal.of_circle-requires
of_circle-requires g c =
    let s = c.args.assigned.now.declared in
    let sound = c.table-table.ensures.assigned.declared in
    let declaration : IsDeclaration (declaration_of s.table s.partition) =
    IsDeclaration-of s.table s.partition sound.table sound.partition sound.one_group_each in
    let d = declaration_of s.table s.partition in
    let needed : IsNeededCircle d c.args.assigned.now.workqueues c.in-Circle.arcs.items =
    rw c.in-Circle.is at c.requires.answer.1 in
    let between =
    subst (λ (arcs : List WaitArc). AreBetween (length s.partition.group_of) arcs) (sym c.deref.ensures.value)
    (AreBetween-walked d declaration needed.out c.in-Circle.arcs.items needed.walked) in
    record {
      between = subst (λ (a : Assigned). AreBetween (length a.declared.partition.group_of) c.deref.result.now)
          (sym c.assigned.view_is) between;
    }

pub returns-in_ok-said-in-Circle : goal.returns-in_ok-said-in-Circle
returns-in_ok-said-in-Circle g c =
    let text = c.in_ok-said-in-Circle.said.items in
    let first = c.args.declaration.file.now in
    rw c.in-Circle.is (
      text,
      refl,
      subst (λ (arcs : List WaitArc). TellsCircle first c.args.assigned.now.declared arcs text)
          c.deref.ensures.value
          (subst (λ (a : Assigned). TellsCircle first a.declared c.deref.result.now text) c.assigned.view_is
          c.in_ok-said-in-Circle.ensures),
    )
