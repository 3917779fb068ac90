use Rattle.std.proofs.Common.{List, refl, subst, sym}
use Rattle.wq_graph.specs.declared.arc.WaitArc.{WaitArc}
use Rattle.wq_groups.specs.DeclaredGroups.{declared_waits}
use Rattle.wq_levels.specs.Walks.{IsWalkedCircle}
use Rattle.wq_deadlock.specs.Judging.{AreFirst, bare_waits, rescued_graph}
use Rattle.wq_deadlock.specs.CircleRun.{flushing_items}
use Rattle.wq_deadlock.proofs.BareLanes.{IsDeclaration-assigned, AreSafe-ranks, Deadlocks-first, some-first}
use Rattle.wq_deadlock.proofs.safety.rescued_are_safe.Goals as goal

pub returns-in-Ranks-clause-yes : goal.returns-in-Ranks-clause-yes
returns-in-Ranks-clause-yes g c =
    let a = c.args.assigned.now in
    let is = c.rescued_graph.ensures.assigned in
    let ranking = rw (c.in-Ranks.is, c.in_ok-graph.ensures.graph) at c.in_ok-rank.ensures.ranking in
    λ _. AreSafe-ranks (declared_waits a.declared) a.workqueues (IsDeclaration-assigned a is)
    is.assignment.assignment is.assignment.few c.requires.none c.in-Ranks.field-0.items ranking.0

pub returns-clause-no : goal.returns-clause-no
returns-clause-no g c =
    let a = c.args.assigned.now in
    let d = declared_waits a.declared in
    let is = c.rescued_graph.ensures.assigned in
    let circle = c.in-Circle.field-0.items in
    let walked : IsWalkedCircle (rescued_graph d a.workqueues) circle =
    rw (c.in-Circle.is, c.in_ok-graph.ensures.graph) at c.in_ok-rank.ensures.ranking in
    let first : AreFirst d a.workqueues (bare_waits d a.workqueues) (flushing_items circle) =
    subst (λ (l : List WaitArc). AreFirst d a.workqueues l (flushing_items circle)) (sym c.requires.none)
    (circle, walked, refl) in
    λ _. Deadlocks-first d a.workqueues (IsDeclaration-assigned a is) is.assignment.assignment
    (flushing_items circle) first

pub returns-clause-some : goal.returns-clause-some
returns-clause-some g c =
    let a = c.args.assigned.now in
    let d = declared_waits a.declared in
    let is = c.rescued_graph.ensures.assigned in
    let circle = c.in-Circle.field-0.items in
    let walked : IsWalkedCircle (rescued_graph d a.workqueues) circle =
    rw (c.in-Circle.is, c.in_ok-graph.ensures.graph) at c.in_ok-rank.ensures.ranking in
    let first : AreFirst d a.workqueues (bare_waits d a.workqueues) (flushing_items circle) =
    subst (λ (l : List WaitArc). AreFirst d a.workqueues l (flushing_items circle)) (sym c.requires.none)
    (circle, walked, refl) in
    λ _. some-first d a.workqueues (IsDeclaration-assigned a is) is.assignment.assignment
    (flushing_items circle) first
