use Rattle.std.proofs.Common.{◌≡◌, ℕ, Bool, ◌<◌, ◌++◌, false, length, slice_index, slice_index_or}
use Rattle.wq_plan.specs.Plan.{chain_from}
use Rattle.wq_plan.proofs.longest.follow.Given as goal

abbrev pub invariant-loop-on : goal.invariant-loop-on
invariant-loop-on g l =
    let unsure : ℕ → Bool = λ place. slice_index_or l.unsure place false in
    (l.chain.items ++ chain_from unsure l.graph l.lane l.on l.vertex ≡ chain_from unsure l.graph l.lane l.below
    l.fn.first)
    × (l.vertex < length l.graph)
    × (slice_index l.lane l.vertex ≡ l.on)
