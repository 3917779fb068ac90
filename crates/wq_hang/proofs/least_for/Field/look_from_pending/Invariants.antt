use Rattle.std.proofs.Common.{ℕ, ◌-◌, ◌≤◌, length, take}
use Rattle.std.specs.Prelude.{Contains}
use Rattle.wq_hang.specs.EndsFor.{IsBest, NoneAlone}
use Rattle.wq_hang.proofs.least_for.Field.look_from_pending.Given as goal

-- no round from where somebody waits for one of the items so far alone is better than the best end
abbrev pub invariant-loop-from : goal.invariant-loop-from
invariant-loop-from g l =
    (l.from ≤ length l.near)
    × IsBest l.self l.best.cost l.best.end
    × (l.best.cost ≤ l.initial.best.cost)
    × ((t : ℕ) → Contains (take l.from l.near) t → NoneAlone l.self l.best.cost t)

abbrev pub decreases-loop-from : goal.decreases-loop-from
decreases-loop-from g l = length l.near - l.from
