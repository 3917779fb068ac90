use Rattle.std.proofs.Common.{◌≡◌, ◌<◌, length}
use Rattle.std.specs.List.{All}
use Rattle.wq_hang.proofs.numbering.visit_all.Given as goal

abbrev pub invariant-loop-arc : goal.invariant-loop-arc
invariant-loop-arc g l = record {
  below : All (λ v. v < length l.initial.seen) l.order.items;
  len : length l.seen ≡ length l.initial.seen;
}
