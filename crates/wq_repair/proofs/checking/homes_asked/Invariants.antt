use Rattle.std.proofs.Common.{◌≡◌, ℕ, length}
use Rattle.wq_groups.specs.Assignment.{group_lane}
use Rattle.wq_repair.specs.Near.{IsAsked}
use Rattle.wq_repair.specs.Settled.{IsHomeOf}
use Rattle.wq_repair.proofs.checking.homes_asked.Given as goal

abbrev pub invariant-loop-group : goal.invariant-loop-group
invariant-loop-group g l = record {
  one_each : length l.asked.items ≡ l.group;
  homes : (k v : ℕ) → IsAsked l.asked.items k v → IsHomeOf l.homes (group_lane l.assignment k) v;
}
