use Rattle.std.proofs.Common.{ℕ, ◌≤◌, take}
use Rattle.std.specs.Prelude.{Contains}
use Rattle.wq_hang.specs.EndsFor.{Field, IsBest, NoneFrom}
use Rattle.wq_hang.proofs.EndsFound.{field_of}
use Rattle.wq_hang.proofs.least_for.Field.look_from.Given as goal

-- no round from the items so far is better than the best end
abbrev pub invariant-loop-i : goal.invariant-loop-i
invariant-loop-i g l =
    let f : Field = field_of l.self-inside.waits.now l.self-inside.starts.now l.self-inside.ways.now
    l.self-inside.pending.now in
    IsBest f l.best.cost l.best.end
    × (l.best.cost ≤ l.initial.best.cost)
    × ((i : ℕ) → Contains (take l.i-index l.few) i → NoneFrom f l.best.cost i)
