use Rattle.std.proofs.Common.{◌≡◌, map, take}
use Rattle.wq_dot.specs.declared.look.FlushLook.TheVariants.{Red}
use Rattle.wq_dot.specs.Flushes.{all_arcs, with_marks}
use Rattle.wq_dot.proofs.flushes.red_flushes.Given as goal

-- the flushes of the components so far are marked
abbrev pub invariant-loop-arcs : goal.invariant-loop-arcs
invariant-loop-arcs g l = l.looks.items ≡ with_marks Red l.initial.looks.items (all_arcs (map (λ v. v.items) (take l.arcs-index l.components)))
