use Rattle.std.proofs.Common.{◌≡◌, ◌-◌, ◌≤◌, length}
use Rattle.std.specs.Prelude.{vec_capacity}
use Rattle.wq_items.specs.Hashing.{AreLinked, keys_of}
use Rattle.wq_items.proofs.names.Places.with_room.Given as goal

abbrev pub invariant-loop-place : goal.invariant-loop-place
invariant-loop-place g l = record {
  linked : AreLinked (keys_of (l.count - 1) l.names) l.place l.lasts.items l.befores.items;
  keyed : length l.lasts.items ≡ l.count;
  room : l.room ≤ vec_capacity l.befores;
}
