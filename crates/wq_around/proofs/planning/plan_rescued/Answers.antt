use Rattle.std.proofs.Common.{ap, ◌∙◌}
use Rattle.wq_groups.specs.DeclaredGroups.{declared_waits}
use Rattle.wq_levels.specs.Walks.{IsWalkedCircle}
use Rattle.wq_deadlock.specs.Judging.{rescued_graph}
use Rattle.wq_deadlock.proofs.BareLanes.{IsDeclaration-assigned}
use Rattle.wq_around.specs.Heights.{start_graph}
use Rattle.wq_around.proofs.StartHangs.{AllDeadlock-circle}
use Rattle.wq_around.proofs.planning.plan_rescued.Goals as goal

pub plan_by_ranks-requires-clause-graph : goal.plan_by_ranks-requires-clause-graph
plan_by_ranks-requires-clause-graph g c =
    c.in_ok-graph.ensures.graph
    ∙ ap (rescued_graph (declared_waits c.args.start.now.declared)) c.requires.start

pub plan_by_ranks-requires-clause-ranks : goal.plan_by_ranks-requires-clause-ranks
plan_by_ranks-requires-clause-ranks g c =
    let ranking = rw c.in-Ranks.is at c.in_ok-ranks.ensures.ranking in
    rw c.as_slice.ensures.value ranking.0

pub returns : goal.returns
returns g c =
    let s = c.args.start.now in
    let d = declared_waits s.declared in
    let f = c.args.fixed.now in
    let declaration = IsDeclaration-assigned s c.rescued_graph.ensures.assigned in
    let walked : IsWalkedCircle (start_graph d f) c.in-Circle.arcs.items =
    rw (c.in-Circle.is, c.in_ok-graph.ensures.graph, c.requires.start) at c.in_ok-ranks.ensures.ranking in
    record {
      answer = record {
        none = c.requires.none;
        walked = walked;
        deadlock = AllDeadlock-circle d f declaration c.requires.fixed c.in-Circle.arcs.items walked;
      };
    }
