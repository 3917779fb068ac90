use Rattle.std.proofs.Common.{◌≡◌, map, take}
use Rattle.std.specs.Prelude.{decimal}
use Rattle.wq_voice.proofs.unsure.listed_numbers.Given as goal

-- the numbers so far
abbrev pub invariant-loop-number : goal.invariant-loop-number
invariant-loop-number g l = map (λ words. words.items) l.words.items ≡ map decimal (take l.number-index l.numbers)
