use Rattle.std.proofs.Common.{◌≡◌, ℕ, ◌-◌, ◌<◌, true, get_or}
use Rattle.wq_text.specs.Words.{in_word}
use Rattle.wq_text.proofs.word.word_in_front.Given as goal

-- all bytes so far are bytes of a word
abbrev pub invariant-loop-len : goal.invariant-loop-len
invariant-loop-len l = (k : ℕ) → k < l.len → in_word (get_or l.text k 0) ≡ true

abbrev pub decreases-loop-len : goal.decreases-loop-len
decreases-loop-len l = l.left - l.len
