use Rattle.std.proofs.Common.{◌<◌, length, arith}
use Rattle.std.proofs.lemmas.List.FromFn.{length-map-range_with_len}
use Rattle.wq_groups.specs.Declaration.{declaration_of}
use Rattle.wq_groups.proofs.Declarations.{IsDeclaration-of}
use Rattle.wq_groups.specs.Assignment.{item_lanes}
use Rattle.wq_graph.specs.Graph.{arcs_from, lane_graph}
use Rattle.wq_levels.specs.Walks.{IsWalkedCircle}
use Rattle.wq_levels.proofs.Walks.{LeadsRound-walked}
use Rattle.wq_core.proofs.Results.{OnErr-holds}
use Rattle.wq_deadlock.proofs.Verdicts.{IsSafeByRanks-ranks, IsDeadlock-walked}
use Rattle.wq_deadlock.proofs.deciding.verdict.Goals as goal

pub returns-in-Ranks-clause-verdict : goal.returns-in-Ranks-clause-verdict
returns-in-Ranks-clause-verdict g c =
    let t = c.args.table.now in
    let p = c.args.groups.now in
    let a = c.args.assignment.now in
    let is = IsDeclaration-of t p c.len-2.ensures.table c.len.ensures.partition c.requires.grouped in
    let ranking = rw (c.in-Ranks.is, c.in_ok-graph.ensures.graph) at c.in_ok-ranks.ensures.ranking in
    IsSafeByRanks-ranks (declaration_of t p) a is (record { one_each = c.requires.assigned; within = c.lanes.ensures.within }) (omega (arith, c.lanes.ensures.lanes, c.lanes.ensures.few)) c.in-Ranks.ranks.items ranking.0

pub run_of_circle-requires-clause-round : goal.run_of_circle-requires-clause-round
run_of_circle-requires-clause-round g c =
    let graph = lane_graph (declaration_of c.args.table.now c.args.groups.now) c.args.assignment.now in
    let walked : IsWalkedCircle graph c.in-Circle.circle.items =
    rw (c.in-Circle.is, c.in_ok-graph.ensures.graph) at c.in_ok-ranks.ensures.ranking in
    rw c.as_slice.ensures.value (LeadsRound-walked graph c.in-Circle.circle.items walked)

pub returns-clause-verdict : goal.returns-clause-verdict
returns-clause-verdict g c =
    let t = c.args.table.now in
    let p = c.args.groups.now in
    let a = c.args.assignment.now in
    let is = IsDeclaration-of t p c.len-2.ensures.table c.len.ensures.partition c.requires.grouped in
    let walked = rw (c.in-Circle.is, c.in_ok-graph.ensures.graph) at c.in_ok-ranks.ensures.ranking in
    IsDeadlock-walked (declaration_of t p) a is (record { one_each = c.requires.assigned; within = c.lanes.ensures.within }) (omega (arith, c.lanes.ensures.lanes, c.lanes.ensures.few)) c.in-Circle.circle.items walked
    c.in_ok-steps-in-Circle.steps.items (rw c.as_slice.ensures.value at c.in_ok-steps-in-Circle.ensures)

pub returns-in_err-steps-in-Circle-clause-memory : goal.returns-in_err-steps-in-Circle-clause-memory
returns-in_err-steps-in-Circle-clause-memory g c =
    let d = declaration_of c.args.table.now c.args.groups.now in
    let a = c.args.assignment.now in
    let walked : IsWalkedCircle (lane_graph d a) c.in-Circle.circle.items = rw (c.in-Circle.is, c.in_ok-graph.ensures.graph) at c.in_ok-ranks.ensures.ranking in
    let some : 0 < length (lane_graph d a) = omega (arith, walked.least.remains.0) in
    let lanes : 0 < a.lanes = omega (arith, some, length-map-range_with_len (arcs_from d.waits (item_lanes a d.group_of)) 0 a.lanes) in
    OnErr-holds c.from_residual-in_err-steps-in-Circle.result lanes
