use Rattle.std.proofs.Common.{◌<◌, ℕ, Bool, false, List, length, map, slice_index_or, refl, ap, ◌∙◌, arith}
use Rattle.std.specs.List.{range_with_len}
use Rattle.wq_items.specs.Table.{flush_count}
use Rattle.wq_items.specs.Readings.{is_among, unsure_places}
use Rattle.wq_groups.specs.Declaration.{declaration_of}
use Rattle.wq_groups.proofs.Declarations.{IsDeclaration-of}
use Rattle.wq_graph.specs.declared.arc.WaitArc.{WaitArc}
use Rattle.wq_graph.specs.Graph.{group_graph}
use Rattle.wq_levels.specs.Ranks.{AreRanks}
use Rattle.wq_core.proofs.Results.{OnErr-holds}
use Rattle.wq_plan.specs.Plan.{lanes_of, chain_of}
use Rattle.wq_plan.proofs.UnsureFlushes.{marks-tell}
use Rattle.wq_plan.proofs.Plans.{length-group_graph, AreRanks-fit, AreRanks-lanes, IsPlanned-from_ranks}
use Rattle.wq_plan.proofs.Plans.{IsCircled-from_walk}
use Rattle.wq_plan.proofs.solving.solve.Goals as goal

pub returns-in_err-lane-clause-memory : goal.returns-in_err-lane-clause-memory
returns-in_err-lane-clause-memory g c =
    let d = declaration_of c.args.table.now c.args.groups.now in
    let some : 0 < length (group_graph d) = rw c.in_ok-graph.ensures.graph at c.in_err-lane.ensures.memory in
    let groups : 0 < c.args.groups.now.groups = omega (arith, some, length-group_graph d) in
    OnErr-holds c.from_residual-in_err-lane.result groups

pub returns-in_err-unsure-clause-memory : goal.returns-in_err-unsure-clause-memory
returns-in_err-unsure-clause-memory g c =
    let t = c.args.table.now in
    let p = c.args.groups.now in
    let is = IsDeclaration-of t p c.len-2.ensures.table c.len.ensures.partition c.requires in
    let first = is.partition.within 0 0 (omega (arith, c.in_err-unsure.ensures.memory, c.requires)) in
    OnErr-holds c.from_residual-in_err-unsure.result (omega (arith, first))

pub returns-in_err-chain-clause-memory : goal.returns-in_err-chain-clause-memory
returns-in_err-chain-clause-memory g c =
    let d = declaration_of c.args.table.now c.args.groups.now in
    let ranking = rw (c.in-Ranks.is, c.in_ok-graph.ensures.graph) at c.in_ok-lane.ensures.ranking in
    let are : AreRanks (group_graph d) c.in-Ranks.lane.items = ranking.0 in
    let some : 0 < length c.in-Ranks.lane.items = rw c.deref-3.ensures.value at c.in_err-chain.ensures.memory in
    let groups : 0 < c.args.groups.now.groups = omega (arith, some, are.one_each, length-group_graph d) in
    OnErr-holds c.from_residual-in_err-chain.result groups

pub returns-in_err-assignment-clause-memory : goal.returns-in_err-assignment-clause-memory
returns-in_err-assignment-clause-memory g c =
    let d = declaration_of c.args.table.now c.args.groups.now in
    let ranking = rw (c.in-Ranks.is, c.in_ok-graph.ensures.graph) at c.in_ok-lane.ensures.ranking in
    let are : AreRanks (group_graph d) c.in-Ranks.lane.items = ranking.0 in
    let some : 0 < length c.in-Ranks.lane.items = rw c.deref-4.ensures.value at c.in_err-assignment.ensures.memory in
    let groups : 0 < c.args.groups.now.groups = omega (arith, some, are.one_each, length-group_graph d) in
    OnErr-holds c.from_residual-in_err-assignment.result groups

pub returns-in-Circle-clause-answer : goal.returns-in-Circle-clause-answer
returns-in-Circle-clause-answer g c =
    let t = c.args.table.now in
    let p = c.args.groups.now in
    let is = IsDeclaration-of t p c.len-2.ensures.table c.len.ensures.partition c.requires in
    IsCircled-from_walk (declaration_of t p) is c.in-Circle.arcs.items
    (rw (c.in-Circle.is, c.in_ok-graph.ensures.graph) at c.in_ok-lane.ensures.ranking)

pub returns-in-Circle-clause-fewer : goal.returns-in-Circle-clause-fewer
returns-in-Circle-clause-fewer g c =
    let t = c.args.table.now in
    let p = c.args.groups.now in
    let is = IsDeclaration-of t p c.len-2.ensures.table c.len.ensures.partition c.requires in
    (IsCircled-from_walk (declaration_of t p) is c.in-Circle.arcs.items
    (rw (c.in-Circle.is, c.in_ok-graph.ensures.graph) at c.in_ok-lane.ensures.ranking)).deadlocks

pub lanes_used-lanes-requires : goal.lanes_used-lanes-requires
lanes_used-lanes-requires g c =
    let t = c.args.table.now in
    let p = c.args.groups.now in
    let is = IsDeclaration-of t p c.len-2.ensures.table c.len.ensures.partition c.requires in
    let ranking = rw (c.in-Ranks.is, c.in_ok-graph.ensures.graph) at c.in_ok-lane.ensures.ranking in
    rw c.deref.ensures.value (AreRanks-fit (declaration_of t p) is c.in-Ranks.lane.items ranking.0)

pub longest_chain-requires-clause-few : goal.longest_chain-requires-clause-few
longest_chain-requires-clause-few g c =
    let t = c.args.table.now in
    let p = c.args.groups.now in
    let is = IsDeclaration-of t p c.len-2.ensures.table c.len.ensures.partition c.requires in
    let ranking = rw (c.in-Ranks.is, c.in_ok-graph.ensures.graph) at c.in_ok-lane.ensures.ranking in
    let lanes = AreRanks-lanes (declaration_of t p) is c.in-Ranks.lane.items ranking.0 in
    rw (c.lanes_used-lanes.ensures, c.deref.ensures.value) lanes.0

pub assign-requires : goal.assign-requires
assign-requires g c =
    let t = c.args.table.now in
    let p = c.args.groups.now in
    let is = IsDeclaration-of t p c.len-2.ensures.table c.len.ensures.partition c.requires in
    let ranking = rw (c.in-Ranks.is, c.in_ok-graph.ensures.graph) at c.in_ok-lane.ensures.ranking in
    let lanes = AreRanks-lanes (declaration_of t p) is c.in-Ranks.lane.items ranking.0 in
    record {
      few = rw (c.lanes_used-lanes.ensures, c.deref.ensures.value) lanes.0;
      within = rw (c.deref-4.ensures.value, c.lanes_used-lanes.ensures, c.deref.ensures.value) lanes.1;
    }

pub returns-clause-answer : goal.returns-clause-answer
returns-clause-answer g c =
    let t = c.args.table.now in
    let p = c.args.groups.now in
    let is = IsDeclaration-of t p c.len-2.ensures.table c.len.ensures.partition c.requires in
    let ranking = rw (c.in-Ranks.is, c.in_ok-graph.ensures.graph) at c.in_ok-lane.ensures.ranking in
    let marks : List Bool = map (is_among (unsure_places t.waits)) (range_with_len 0 (flush_count t.waits)) in
    IsPlanned-from_ranks (declaration_of t p) is c.in-Ranks.lane.items ranking.0 c.in_ok-assignment.assignment
    c.in_ok-chain.chain.items
    (c.in_ok-assignment.ensures.of_groups ∙ c.deref-4.ensures.value)
    (c.in_ok-assignment.ensures.lanes ∙ c.lanes_used-lanes.ensures ∙ ap lanes_of c.deref.ensures.value)
    (c.in_ok-chain.ensures.chain
    ∙ ap (λ (l : List Bool). chain_of (λ place. slice_index_or l place false) c.in_ok-graph.graph c.deref-3.result.now)
    (c.deref-2.ensures.value ∙ c.in_ok-unsure.ensures.unsure)
    ∙ ap (λ (u : ℕ → Bool). chain_of u c.in_ok-graph.graph c.deref-3.result.now)
    (marks-tell t.waits marks c.len-2.ensures.table.places_are_numbered refl)
    ∙ ap (λ (l : List (List WaitArc)). chain_of (is_among (unsure_places t.waits)) l c.deref-3.result.now)
    c.in_ok-graph.ensures.graph
    ∙ ap (λ (l : List ℕ). chain_of (is_among (unsure_places t.waits)) (group_graph (declaration_of t p)) l)
    c.deref-3.ensures.value)

pub returns-clause-safe : goal.returns-clause-safe
returns-clause-safe g c = (returns-clause-answer g c).least.safe

pub returns-clause-fewer : goal.returns-clause-fewer
returns-clause-fewer g c = (returns-clause-answer g c).least.fewer
