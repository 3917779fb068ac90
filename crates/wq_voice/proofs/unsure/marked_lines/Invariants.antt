use Rattle.std.proofs.Common.{◌≡◌, length, take}
use Rattle.std.specs.List.{count_by}
use Rattle.wq_voice.proofs.unsure.marked_lines.Given as goal

-- as many lines as marks so far
abbrev pub invariant-loop-place : goal.invariant-loop-place
invariant-loop-place g l = length l.lines.items ≡ count_by (λ mark. mark) (take l.place l.marks)
