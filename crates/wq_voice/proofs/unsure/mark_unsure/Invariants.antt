use Rattle.std.proofs.Common.{map, take}
use Rattle.std.specs.Prelude.{filter}
use Rattle.wq_items.specs.declared.target.Target.{Target}
use Rattle.wq_voice.proofs.UnsureNotes.{AreMade}
use Rattle.wq_voice.proofs.unsure.mark_unsure.Given as goal

-- the marks of the flushes so far were made
abbrev pub invariant-loop-target : goal.invariant-loop-target
invariant-loop-target l =
    AreMade l.fn.marks
    (map (λ (t : Target). t.place) (filter (λ (t : Target). t.unsure) (take l.target-index l.targets))) l.marks
