use Rattle.wq_groups.specs.DeclaredGroups.{declared_waits}
use Rattle.wq_levels.specs.Walks.{IsWalkedCircle}
use Rattle.wq_core.proofs.Results.{OnErr-holds}
use Rattle.wq_deadlock.specs.Judging.{rescued_graph}
use Rattle.wq_deadlock.proofs.BareLanes.{IsDeclaration-assigned, AreSafe-ranks, some-lanes}
use Rattle.wq_deadlock.proofs.workqueues.judge_rescued.Goals as goal

pub returns-in-Ranks-clause-verdict : goal.returns-in-Ranks-clause-verdict
returns-in-Ranks-clause-verdict g c =
    let a = c.args.assigned.now in
    let is = c.rescued_graph.ensures.assigned in
    let ranking = rw (c.in-Ranks.is, c.in_ok-graph.ensures.graph) at c.in_ok-rank.ensures.ranking in
    AreSafe-ranks (declared_waits a.declared) a.workqueues (IsDeclaration-assigned a is)
    is.assignment.assignment is.assignment.few c.requires.none c.in-Ranks.field-0.items ranking.0

pub returns-in_err-first-in-Circle-clause-memory : goal.returns-in_err-first-in-Circle-clause-memory
returns-in_err-first-in-Circle-clause-memory g c =
    let d = declared_waits c.args.assigned.now.declared in
    let ws = c.args.assigned.now.workqueues in
    let walked : IsWalkedCircle (rescued_graph d ws) c.in-Circle.circle.items =
    rw (c.in-Circle.is, c.in_ok-graph.ensures.graph) at c.in_ok-rank.ensures.ranking in
    OnErr-holds c.from_residual-in_err-first-in-Circle.result (some-lanes d ws c.in-Circle.circle.items walked)
