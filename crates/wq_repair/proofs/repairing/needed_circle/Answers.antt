use Rattle.std.proofs.Common.{◌≡◌, Bool, not, List, length, ap, subst, ◌∙◌}
use Rattle.std.specs.Prelude.{map}
use Rattle.wq_items.specs.Chain.{HasCircle}
use Rattle.wq_groups.specs.DeclaredGroups.{declared_waits}
use Rattle.wq_groups.specs.Assignment.{IsAssignment}
use Rattle.wq_core.specs.Workqueues.{Workqueues}
use Rattle.wq_graph.specs.declared.arc.WaitArc.{WaitArc}
use Rattle.wq_graph.specs.Graph.{HasArc, group_graph, without}
use Rattle.wq_levels.specs.Walks.{IsWalkedCircle}
use Rattle.wq_repair.proofs.Answered.{IsNeededCircle-walked, no_circle-needed}
use Rattle.wq_repair.proofs.repairing.needed_circle.Goals as goal

pub returns-in-Ranks-clause-none : goal.returns-in-Ranks-clause-none
returns-in-Ranks-clause-none g c =
    let known = c.workqueues_of-declared.ensures in
    let d = declared_waits c.args.assigned.now.declared in
    let assigned = subst (λ (ws : Workqueues). IsAssignment d.groups ws.assignment) known.is known.assignment.assignment
    in
    let always = c.in_ok-always.always.items in
    let is : c.in_ok-graph.graph ≡ without (map not always) (group_graph d) = c.in_ok-graph.ensures
    ∙ ap (λ (xs : List Bool). without (map not xs) (group_graph d)) c.as_slice.ensures.value in
    let ranking = rw (c.in-Ranks.is) at c.in_ok-rank.ensures.ranking in
    no_circle-needed d c.args.assigned.now.workqueues known.declaration assigned always c.in_ok-always.ensures
    (subst (λ (graph : List (List WaitArc)). ¬ HasCircle (HasArc graph) (length graph)) is ranking.1)

pub returns-clause-some : goal.returns-clause-some
returns-clause-some g c =
    let known = c.workqueues_of-declared.ensures in
    let d = declared_waits c.args.assigned.now.declared in
    let assigned = subst (λ (ws : Workqueues). IsAssignment d.groups ws.assignment) known.is known.assignment.assignment
    in
    let always = c.in_ok-always.always.items in
    let is : c.in_ok-graph.graph ≡ without (map not always) (group_graph d) = c.in_ok-graph.ensures
    ∙ ap (λ (xs : List Bool). without (map not xs) (group_graph d)) c.as_slice.ensures.value in
    let walked = rw (c.in-Circle.is) at c.in_ok-rank.ensures.ranking in
    IsNeededCircle-walked d c.args.assigned.now.workqueues known.declaration assigned always c.in_ok-always.ensures
    c.in-Circle.arcs.items
    (subst (λ (graph : List (List WaitArc)). IsWalkedCircle graph c.in-Circle.arcs.items) is walked)
