use Rattle.std.proofs.Common.{◌≡◌, List, map, refl, ap, sym, subst, ◌∙◌}
use Rattle.wq_graph.specs.declared.arc.WaitArc.{WaitArc}
use Rattle.wq_core.specs.Assigned.{Assigned}
use Rattle.wq_core.specs.declared.step.Step.{Step}
use Rattle.wq_cert.specs.RunText.{run_text}
use Rattle.wq_groups.specs.DeclaredGroups.{declared_waits}
use Rattle.wq_deadlock.specs.Judging.{IsHang}
use Rattle.wq_repair.specs.Repair.{IsRepair, AreNamesTooFew}
use Rattle.wq_repair_command.specs.AssignmentText.{assignment_text}
use Rattle.wq_repair_command.specs.Repairing.{PrintsWithRun}
use Rattle.wq_repair_command.proofs.repairing.print_answer.Goals as goal

pub returns-in_ok-text-in-Safe : goal.returns-in_ok-text-in-Safe
returns-in_ok-text-in-Safe g c = rw c.in-Safe.is (refl, c.in_ok-text-in-Safe.ensures)

pub new-repaired-requires : goal.new-repaired-requires
new-repaired-requires g c =
    let a = c.args.assigned.now in
    let repair : IsRepair (declared_waits a.declared) a.workqueues c.requires.0 c.in-Repaired.new = rw
    (c.in-Repaired.is) at c.requires.1 in
    repair.compared.assignment.one_each ∙ sym (ap (λ (b : Assigned). b.declared.partition.groups) c.assigned.view_is)

pub returns-in_ok-text-in-Repaired : goal.returns-in_ok-text-in-Repaired
returns-in_ok-text-in-Repaired g c =
    let called = map (λ n. n.now) c.args.called.now in
    let same =
    c.in_ok-text-in-Repaired.ensures
    ∙ ap (λ (b : Assigned). assignment_text b.declared.table.names b.declared.partition b.workqueues called)
    c.new-repaired.ensures
    ∙ ap (λ (b : Assigned). assignment_text b.declared.table.names b.declared.partition c.in-Repaired.new called)
    c.assigned.view_is in
    rw c.in-Repaired.is (refl, same)

pub text_of_hang-requires : goal.text_of_hang-requires
text_of_hang-requires g c =
    let a = c.args.assigned.now in
    let start = c.in-TooFewNames.start in
    let steps : List Step = c.deref.result.now in
    let few : AreNamesTooFew (declared_waits a.declared) a.workqueues c.requires.0 start c.in-TooFewNames.steps.items =
    rw (c.in-TooFewNames.is) at c.requires.1 in
    subst (λ (b : Assigned). IsHang (declared_waits b.declared) b.workqueues steps) (sym c.new-begin.ensures)
    (subst (λ (b : Assigned). IsHang (declared_waits b.declared) start steps) (sym c.assigned.view_is)
    (subst (IsHang (declared_waits a.declared) start) (sym c.deref.ensures.value) few.hang))

pub new-begin-requires : goal.new-begin-requires
new-begin-requires g c =
    let a = c.args.assigned.now in
    let few : AreNamesTooFew (declared_waits a.declared) a.workqueues c.requires.0 c.in-TooFewNames.start
    c.in-TooFewNames.steps.items = rw (c.in-TooFewNames.is) at c.requires.1 in
    few.compared.assignment.one_each ∙ sym (ap (λ (b : Assigned). b.declared.partition.groups) c.assigned.view_is)

pub returns-in_ok-text-in-TooFewNames : goal.returns-in_ok-text-in-TooFewNames
returns-in_ok-text-in-TooFewNames g c =
    let steps : List Step = c.deref.result.now in
    let same =
    c.in_ok-text-in-TooFewNames.ensures
    ∙ ap (λ (b : Assigned). run_text b.declared.table.names steps) c.new-begin.ensures
    ∙ ap (λ (b : Assigned). run_text b.declared.table.names steps) c.assigned.view_is
    ∙ ap (run_text c.args.assigned.now.declared.table.names) c.deref.ensures.value in
    rw c.in-TooFewNames.is (refl, same)

pub returns-in_ok-text-in-Circle : goal.returns-in_ok-text-in-Circle
returns-in_ok-text-in-Circle g c =
    let text = c.in_ok-text-in-Circle.text.items in
    let said = subst (λ (arcs : List WaitArc). PrintsWithRun c.assigned.inside.declared.now arcs text)
    c.deref-in-Circle.ensures.value c.in_ok-text-in-Circle.ensures in
    rw c.in-Circle.is (
      refl,
      subst (λ (a : Assigned). PrintsWithRun a.declared c.in-Circle.arcs.items text)
          c.assigned.view_is said,
    )
