use Rattle.std.proofs.Common.{◌≡◌, ℕ}
use Rattle.wq_repair.specs.Changes.{lane_in}
use Rattle.wq_repair.specs.Marks.{IsMarked, Marks}
use Rattle.wq_repair.proofs.wider.staying.Given as goal

abbrev pub invariant-loop-group : goal.invariant-loop-group
invariant-loop-group g l = Marks (λ (k : ℕ). IsMarked l.groups k × (lane_in l.new k ≡ lane_in l.old k)) l.group l.staying.items
