use Rattle.std.proofs.Common.{◌≡◌, ◌++◌, map, take}
use Rattle.std.specs.Prelude.{codes, flat_map}
use Rattle.wq_voice.proofs.note.put_others.Given as goal

-- the names so far
abbrev pub invariant-loop-other : goal.invariant-loop-other
invariant-loop-other g l = l.out.items ≡ l.fn.out.items ++ flat_map (λ other. codes ", " ++ other) (map (λ words. words.items) (take l.other-index l.others))
