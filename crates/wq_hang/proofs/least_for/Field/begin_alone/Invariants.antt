use Rattle.std.proofs.Common.{ℕ, ◌<◌, ◌⊎◌, map}
use Rattle.std.specs.Prelude.{Contains}
use Rattle.std.specs.List.{All}
use Rattle.wq_core.specs.Wiring.{items}
use Rattle.wq_hang.specs.EndsFor.{NoneAlone}
use Rattle.wq_hang.proofs.least_for.Field.begin_alone.Given as goal

-- of the items so far those from which a round alone may be better
abbrev pub invariant-loop-i : goal.invariant-loop-i
invariant-loop-i g l =
    All (λ i. i < items l.self.wiring) (map (λ key. key.1) l.keys.items)
    × ((t : ℕ) → t < l.i → Contains (map (λ key. key.1) l.keys.items) t ⊎ NoneAlone l.self l.fn.best t)
