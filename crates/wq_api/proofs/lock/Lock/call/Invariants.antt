use Rattle.std.proofs.Common.{◌≡◌}
use Rattle.wq_api.specs.declared.entered.Phase.TheVariants.{Fresh}
use Rattle.wq_api.proofs.lock.Lock.call.Given as goal

-- no turn so far has changed what is the caller's own, and none was taken since the lock was
abbrev pub invariant-loop : goal.invariant-loop
invariant-loop g l =
    (goal.iterator-loop g).can_next l.iterator' × (goal.iterator-loop g).is_finite l.iterator'
    × (l.own ≡ l.fn.own) × (l.entered.phase ≡ Fresh)
