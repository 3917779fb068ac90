use Rattle.std.proofs.Common.{◌≡◌, ◌++◌, take}
use Rattle.wq_findings.specs.Shown.{place_text}
use Rattle.wq_findings.proofs.place.put_place.Given as goal

-- the numbers so far
abbrev pub invariant-loop-number : goal.invariant-loop-number
invariant-loop-number g l = l.out.items ≡ l.fn.out.items ++ place_text (take l.number-index l.place)
