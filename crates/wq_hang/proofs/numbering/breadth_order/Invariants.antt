use Rattle.std.proofs.Common.{◌≡◌, ◌<◌, length}
use Rattle.std.specs.List.{All}
use Rattle.wq_hang.proofs.numbering.breadth_order.Given as goal

abbrev pub invariant-loop-root : goal.invariant-loop-root
invariant-loop-root g l = record {
  below : All (λ v. v < length l.graph) l.order.items;
  len : length l.seen.items ≡ length l.graph;
}
