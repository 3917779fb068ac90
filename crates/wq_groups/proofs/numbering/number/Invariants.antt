use Rattle.std.specs.Prelude.{slice_index}
use Rattle.wq_groups.proofs.NumberLemmas.{Numbered}
use Rattle.wq_groups.proofs.numbering.number.Given as goal

abbrev pub invariant-loop-i : goal.invariant-loop-i
invariant-loop-i g l = Numbered (slice_index l.first) l.i l.group_of.items l.groups
