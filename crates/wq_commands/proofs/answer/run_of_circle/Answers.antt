use Rattle.std.proofs.Common.{sym, subst}
use Rattle.std.proofs.lemmas.Result.{IfOk-weaker}
use Rattle.wq_groups.specs.DeclaredGroups.{declared_waits, Declared, IsSound}
use Rattle.wq_graph.specs.Graph.{group_graph}
use Rattle.wq_levels.specs.Walks.{LeadsRound}
use Rattle.wq_levels.proofs.Walks.{LeadsRound-walked}
use Rattle.wq_core.specs.Wiring.{wiring, own_lanes}
use Rattle.wq_deadlock.specs.CircleRun.{IsCircleRun}
use Rattle.wq_commands.proofs.CircleRuns.{DeadlocksBy-own_lanes}
use Rattle.wq_commands.proofs.answer.run_of_circle.Goals as goal

pub run_round-requires-clause-round : goal.run_round-requires-clause-round
run_round-requires-clause-round g c =
    let s = c.args.declared.now in
    subst (λ (d : Declared). LeadsRound (group_graph (declared_waits d)) c.args.arcs.now) (sym c.declared.view_is)
    (LeadsRound-walked (group_graph (declared_waits s)) c.args.arcs.now c.requires.circled.walked)

pub returns-clause-run : goal.returns-clause-run
returns-clause-run g c =
    IfOk-weaker c.run_round.result _ _ (λ steps is_run.
    subst (λ (d : Declared).
    IsCircleRun (wiring (declared_waits d) (own_lanes d.partition.groups)) c.args.arcs.now steps.items)
    c.declared.view_is is_run) c.run_round.ensures

pub returns-clause-deadlocks : goal.returns-clause-deadlocks
returns-clause-deadlocks g c =
    let s = c.args.declared.now in
    let sound : IsSound s = subst IsSound c.declared.view_is c.declared.invariant in
    IfOk-weaker c.run_round.result _ _ (λ steps is_run.
    DeadlocksBy-own_lanes s sound c.args.arcs.now steps.items c.requires.circled.walked
    (subst (λ (d : Declared).
    IsCircleRun (wiring (declared_waits d) (own_lanes d.partition.groups)) c.args.arcs.now steps.items)
    c.declared.view_is is_run)) c.run_round.ensures
