use Rattle.std.proofs.Common.{◌≤◌, take}
use Rattle.wq_hang.specs.Search.{hops_cost}
use Rattle.wq_hang.proofs.least_for.hops_cost.Given as goal

abbrev pub invariant-loop-hop : goal.invariant-loop-hop
invariant-loop-hop l = l.cost ≤ hops_cost (take l.hop-index l.hops)
