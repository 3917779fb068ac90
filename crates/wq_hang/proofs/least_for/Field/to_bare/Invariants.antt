use Rattle.std.proofs.Common.{◌<◌, take}
use Rattle.wq_hang.specs.EndsFor.{Field, IsBest}
use Rattle.wq_hang.proofs.EndsFound.{field_of, NoneBareOf}
use Rattle.wq_hang.proofs.FlushesSoFar.{IsBefore}
use Rattle.wq_hang.proofs.least_for.Field.to_bare.Given as goal

-- the best so far of the hops to bare lanes
abbrev pub invariant-loop-i : goal.invariant-loop-i
invariant-loop-i g l =
    let f : Field = field_of l.self-inside.waits.now l.self-inside.starts.now l.self-inside.ways.now
    l.self-inside.pending.now in
    IsBest f l.best.cost l.best.end × NoneBareOf f (λ j t. j < l.i) l.best.cost

abbrev pub invariant-loop-flush : goal.invariant-loop-flush
invariant-loop-flush g l =
    let f : Field = field_of l.self-inside.waits.now l.self-inside.starts.now l.self-inside.ways.now
    l.self-inside.pending.now in
    IsBest f l.best.cost l.best.end
    × NoneBareOf f (IsBefore l.i (take l.flush-index l.flush-items)) l.best.cost
