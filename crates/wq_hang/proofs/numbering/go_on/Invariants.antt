use Rattle.std.proofs.Common.{◌≡◌, ◌<◌, length}
use Rattle.std.specs.List.{All}
use Rattle.wq_hang.proofs.numbering.go_on.Given as goal

abbrev pub invariant-loop : goal.invariant-loop
invariant-loop g l = record {
  below : All (λ v. v < length l.graph) l.order.items;
  len : length l.seen ≡ length l.graph;
}
