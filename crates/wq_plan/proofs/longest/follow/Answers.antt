use Rattle.std.proofs.Common.{◌≡◌, ◌-◌, ℕ, Bool, false, List, length, Some, None, slice_index}
use Rattle.std.proofs.Common.{slice_index_or, ap, ◌∙◌, arith}
use Rattle.std.proofs.lemmas.List.FromFn.{length-map-range_with_len}
use Rattle.wq_graph.specs.declared.arc.WaitArc.{WaitArc}
use Rattle.wq_levels.proofs.Graphs.{arcs_at-below}
use Rattle.wq_plan.specs.Plan.{chain_from}
use Rattle.wq_plan.proofs.Arcs.{next_arc, follow_more, follow_none, next_arc-below, next_arc-on}
use Rattle.wq_plan.proofs.Doubts.{doubts_at, next-found}
use Rattle.wq_plan.proofs.longest.follow.Goals as goal

pub bounds-doubts-from : goal.bounds-doubts-from
bounds-doubts-from g c =
    let unsure : ℕ → Bool = λ place. slice_index_or c.args.unsure.now place false in
    let count = ap length c.requires.doubts ∙ length-map-range_with_len
    (doubts_at unsure c.args.graph.now c.args.lane.now) 0 (length c.args.lane.now) in
    omega (arith, c.from.ensures, c.loop-on.invariant.1, count, c.requires.one_each)

pub first_on-requires-clause-one_each : goal.first_on-requires-clause-one_each
first_on-requires-clause-one_each g c =
    let unsure : ℕ → Bool = λ place. slice_index_or c.args.unsure.now place false in
    ap length c.requires.doubts ∙ length-map-range_with_len (doubts_at unsure c.args.graph.now c.args.lane.now) 0
    (length c.args.lane.now)

pub first_on-requires-clause-vertices : goal.first_on-requires-clause-vertices
first_on-requires-clause-vertices g c = rw (c.arcs-arcs.ensures, c.requires.one_each)
    (arcs_at-below c.args.graph.now c.requires.graph c.loop-on.vertex)

pub returns-in_default-clause-chain : goal.returns-in_default-clause-chain
returns-in_default-clause-chain g c =
    let graph = c.args.graph.now in
    let lane : List ℕ = c.args.lane.now in
    let unsure : ℕ → Bool = λ place. slice_index_or c.args.unsure.now place false in
    let on : ℕ = c.loop-on.on in
    let v : ℕ = c.loop-on.vertex in
    let none : next_arc unsure graph lane (on - 1) v ≡ None =
    next-found unsure graph lane c.args.doubts.now c.requires.graph c.requires.one_each c.requires.doubts on v
    (omega (arith, c.loop-on-test.true)) c.loop-on.invariant.1 c.loop-on.invariant.2 c.arcs-arcs.result.now
    c.arcs-arcs.ensures None
    (slice_index c.args.doubts.now c.from.result) (ap (slice_index c.args.doubts.now) c.from.ensures)
    c.in_default.ensures in
    follow_none unsure graph lane (on - 1) v c.loop-on.chain.items
    (chain_from unsure graph lane c.args.below c.args.first) on (omega (arith, c.loop-on-test.true)) none
    c.loop-on.invariant.0

pub loop-on-preserved : goal.loop-on-preserved
loop-on-preserved g c =
    let graph = c.args.graph.now in
    let lane : List ℕ = c.args.lane.now in
    let unsure : ℕ → Bool = λ place. slice_index_or c.args.unsure.now place false in
    let on : ℕ = c.loop-on.on in
    let v : ℕ = c.loop-on.vertex in
    let arc : WaitArc = c.in-Some.arc.now in
    let next : next_arc unsure graph lane (on - 1) v ≡ Some arc =
    next-found unsure graph lane c.args.doubts.now c.requires.graph c.requires.one_each c.requires.doubts on v
    (omega (arith, c.loop-on-test.true)) c.loop-on.invariant.1 c.loop-on.invariant.2 c.arcs-arcs.result.now
    c.arcs-arcs.ensures (Some arc)
    (slice_index c.args.doubts.now c.from.result) (ap (slice_index c.args.doubts.now) c.from.ensures) c.in-Some.ensures
    in
    let total = chain_from unsure graph lane c.args.below c.args.first in (
      rw c.in_ok-push.ensures.items (follow_more unsure graph lane (on - 1) v c.loop-on.chain.items total on arc
          (omega (arith, c.loop-on-test.true)) next c.loop-on.invariant.0),
      next_arc-below unsure graph lane (on - 1) v arc c.requires.graph next,
      next_arc-on unsure graph lane (on - 1) v arc next,
    )
