use Rattle.std.proofs.Common.{◌≡◌, ℕ, take}
use Rattle.std.specs.Prelude.{Contains}
use Rattle.wq_hang.specs.EndsFor.{IsBest, NoneAlone}
use Rattle.wq_hang.proofs.least_for.Field.look_from_alone.Given as goal

-- nothing is found yet
abbrev pub invariant-loop-i : goal.invariant-loop-i
invariant-loop-i g l =
    IsBest l.self l.best.cost l.best.end
    × (l.best.cost ≡ l.initial.best.cost)
    × ((t : ℕ) → Contains (take l.i-index l.few) t → NoneAlone l.self l.best.cost t)
