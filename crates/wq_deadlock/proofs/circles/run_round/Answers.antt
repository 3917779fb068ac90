use Rattle.std.proofs.Common.{length, sym, ap, subst, ◌∙◌}
use Rattle.std.specs.Prelude.{IfOk}
use Rattle.std.proofs.lemmas.List.FromFn.{length-range_with_len}
use Rattle.wq_groups.specs.Assignment.{Assignment}
use Rattle.wq_groups.specs.Declaration.{declaration_of}
use Rattle.wq_groups.proofs.Declarations.{IsDeclaration-of}
use Rattle.wq_graph.specs.Graph.{lane_graph}
use Rattle.wq_levels.specs.Walks.{LeadsRound}
use Rattle.wq_core.specs.Wiring.{wiring}
use Rattle.wq_deadlock.specs.CircleRun.{IsCircleRun}
use Rattle.wq_deadlock.proofs.CircleRuns.{LeadsRound-own_lanes}
use Rattle.wq_deadlock.proofs.circles.run_round.Goals as goal

pub run_of_circle-requires-clause-assigned : goal.run_of_circle-requires-clause-assigned
run_of_circle-requires-clause-assigned g c =
    let groups = c.args.groups.now.groups in
    ap (λ (a : Assignment). length a.lane_of_group) c.in_ok-assignment.ensures.lanes ∙ length-range_with_len 0 groups

pub run_of_circle-requires-clause-round : goal.run_of_circle-requires-clause-round
run_of_circle-requires-clause-round g c =
    let d = declaration_of c.args.table.now c.args.groups.now in
    let is = IsDeclaration-of c.args.table.now c.args.groups.now c.len-2.ensures.table c.len.ensures.partition
    c.requires.grouped in
    subst (λ (a : Assignment). LeadsRound (lane_graph d a) c.args.circle.now) (sym c.in_ok-assignment.ensures.lanes)
    (LeadsRound-own_lanes d is c.args.circle.now c.requires.round)

pub returns : goal.returns
returns g c =
    let d = declaration_of c.args.table.now c.args.groups.now in
    subst
    (λ (a : Assignment). IfOk c.run_of_circle.result (λ steps. IsCircleRun (wiring d a) c.args.circle.now steps.items))
    c.in_ok-assignment.ensures.lanes c.run_of_circle.ensures
