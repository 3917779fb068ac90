use Rattle.std.proofs.Common.{◌≢◌, ℕ, ◌<◌}
use Rattle.std.specs.Prelude.{◌↔◌, Contains, AllPairs}
use Rattle.wq_repair.specs.Marks.{IsMarked}
use Rattle.wq_repair.proofs.listing.listed.Given as goal

-- those so far
abbrev pub invariant-loop-number : goal.invariant-loop-number
invariant-loop-number g l = record {
  exactly : (k : ℕ) → Contains l.listed.items k ↔ ((k < l.number) × IsMarked l.marks k);
  once : AllPairs (λ (j k : ℕ). j ≢ k) l.listed.items;
}
