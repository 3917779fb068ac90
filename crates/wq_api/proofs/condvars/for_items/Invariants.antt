use Rattle.std.proofs.Common.{◌≡◌, ◌≤◌, vec_len, length}
use Rattle.wq_api.specs.Locking.{AreOfItems}
use Rattle.wq_api.proofs.condvars.for_items.Given as goal

-- as many as the loop has gone round, each that of its item, and there is room for the others
abbrev pub invariant-loop-i : goal.invariant-loop-i
invariant-loop-i g l =
    (vec_len l.items ≡ l.i) × (l.number ≤ l.items.cap) × (length l.items.items ≡ l.i)
    × AreOfItems (λ x. x.of) l.items.items
