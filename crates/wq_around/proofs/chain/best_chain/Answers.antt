use Rattle.std.proofs.Common.{ℕ, Bool, false, List, slice_index_or, subst}
use Rattle.wq_around.specs.Down.{IsFirstTop, IsFirstDown, IsBestDown}
use Rattle.wq_around.proofs.FirstDown.{IsBestDown-first}
use Rattle.wq_around.proofs.Outcomes.{IfOk-then}
use Rattle.wq_around.proofs.chain.best_chain.Goals as goal

pub returns-in-Some-clause-chain : goal.returns-in-Some-clause-chain
returns-in-Some-clause-chain g c =
    let unsure : ℕ → Bool = λ place. slice_index_or c.args.unsure.now place false in
    let graph = c.args.graph.now in
    let new : ℕ = c.args.new in
    let heights : List ℕ = c.args.heights.now in
    let doubts : List ℕ = c.in_ok-doubts.doubts.items in
    let top : IsFirstTop new heights c.args.most doubts c.in-Some.first =
    subst (λ (l : List ℕ). IsFirstTop new heights c.args.most l c.in-Some.first) c.as_slice.ensures.value
    c.in-Some.ensures.some in
    IfOk-then
    (λ chain. IsFirstDown unsure graph new heights c.as_slice-in-Some.result.now c.in-Some.first chain.items)
    (λ chain. IsBestDown unsure graph new heights c.args.most chain.items) c.follow.result c.follow.ensures.chain
    (λ chain down.
    IsBestDown-first unsure graph new heights doubts c.requires.graph c.in_ok-doubts.ensures.doubts c.args.most
    c.in-Some.first chain.items top
    (subst (λ (l : List ℕ). IsFirstDown unsure graph new heights l c.in-Some.first chain.items)
    c.as_slice-in-Some.ensures.value down))
