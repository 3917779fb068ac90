use Rattle.std.proofs.Common.{◌≡◌, ℕ, Bool, false, length, Some}
use Rattle.std.proofs.Common.{slice_index_or, sym, ap, ◌∙◌, arith}
use Rattle.std.proofs.lemmas.List.FromFn.{length-map-range_with_len}
use Rattle.wq_plan.specs.Plan.{first_vertex}
use Rattle.wq_plan.proofs.Doubts.{doubts_at, first-found, first-on_last, chain-found, chain-none}
use Rattle.wq_plan.proofs.longest.longest_chain.Goals as goal

pub first_on_last-requires-clause-one_each : goal.first_on_last-requires-clause-one_each
first_on_last-requires-clause-one_each g c =
    let unsure : ℕ → Bool = λ place. slice_index_or c.args.unsure.now place false in
    ap length (c.as_slice.ensures.value ∙ c.in_ok-doubts.ensures.doubts)
    ∙ length-map-range_with_len (doubts_at unsure c.args.graph.now c.args.lane.now) 0 (length c.args.lane.now)

pub overflow_cast-first : goal.overflow_cast-first
overflow_cast-first g c =
    let unsure : ℕ → Bool = λ place. slice_index_or c.args.unsure.now place false in
    let found = first-on_last unsure c.args.graph.now c.args.lane.now c.as_slice.result.now c.args.lanes
    c.requires.lanes (c.as_slice.ensures.value ∙ c.in_ok-doubts.ensures.doubts) c.in-Some.first
    (sym c.in-Some.ensures) in
    omega (arith, found.0, c.requires.one_each, c.requires.graph.few)

pub follow-requires-clause-vertex : goal.follow-requires-clause-vertex
follow-requires-clause-vertex g c =
    let unsure : ℕ → Bool = λ place. slice_index_or c.args.unsure.now place false in
    let found = first-on_last unsure c.args.graph.now c.args.lane.now c.as_slice.result.now c.args.lanes
    c.requires.lanes (c.as_slice.ensures.value ∙ c.in_ok-doubts.ensures.doubts) c.in-Some.first
    (sym c.in-Some.ensures) in
    omega (arith, found.0, c.requires.one_each)

pub follow-requires-clause-lane : goal.follow-requires-clause-lane
follow-requires-clause-lane g c =
    let unsure : ℕ → Bool = λ place. slice_index_or c.args.unsure.now place false in
    let found = first-on_last unsure c.args.graph.now c.args.lane.now c.as_slice.result.now c.args.lanes
    c.requires.lanes (c.as_slice.ensures.value ∙ c.in_ok-doubts.ensures.doubts) c.in-Some.first
    (sym c.in-Some.ensures) in
    omega (arith, found.1)

pub returns-in-Some-clause-chain : goal.returns-in-Some-clause-chain
returns-in-Some-clause-chain g c =
    let unsure : ℕ → Bool = λ place. slice_index_or c.args.unsure.now place false in
    let is : Some c.in-Some.first ≡ first_vertex unsure c.args.graph.now c.args.lane.now =
    c.in-Some.ensures ∙ first-found unsure c.args.graph.now c.args.lane.now c.as_slice.result.now c.args.lanes
    c.requires.lanes (c.as_slice.ensures.value ∙ c.in_ok-doubts.ensures.doubts) in
    rw (← chain-found unsure c.args.graph.now c.args.lane.now c.args.lanes c.in-Some.first c.requires.lanes is)
    c.follow.ensures.chain

pub returns-clause-chain : goal.returns-clause-chain
returns-clause-chain g c =
    let unsure : ℕ → Bool = λ place. slice_index_or c.args.unsure.now place false in
    c.new-in-None.ensures.items
    ∙ chain-none unsure c.args.graph.now c.args.lane.now
    (c.in-None.ensures ∙ first-found unsure c.args.graph.now c.args.lane.now c.as_slice.result.now c.args.lanes
    c.requires.lanes (c.as_slice.ensures.value ∙ c.in_ok-doubts.ensures.doubts))
