use Rattle.std.proofs.Common.{ℕ, ◌<◌}
use Rattle.std.specs.Prelude.{slice_index}
use Rattle.wq_repair.proofs.NeededFound.{HeadBelow}
use Rattle.wq_repair.proofs.checking.is_above.Given as goal

-- those so far are lower
abbrev pub invariant-loop-arc : goal.invariant-loop-arc
invariant-loop-arc l = (h : ℕ) → HeadBelow l.arcs l.arc-index h → slice_index l.ranks h < l.rank
