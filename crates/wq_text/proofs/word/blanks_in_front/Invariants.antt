use Rattle.std.proofs.Common.{◌≡◌, ℕ, ◌<◌, true, get_or}
use Rattle.wq_text.specs.Words.{is_blank}
use Rattle.wq_text.proofs.word.blanks_in_front.Given as goal

-- all bytes so far are blanks
abbrev pub invariant-loop-len : goal.invariant-loop-len
invariant-loop-len l = (k : ℕ) → k < l.len → is_blank (get_or l.bytes k 0) ≡ true
