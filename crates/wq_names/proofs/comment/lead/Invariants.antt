use Rattle.std.proofs.Common.{◌≡◌, ℕ, ◌<◌, true, get_or}
use Rattle.wq_names.specs.Comments.{is_lead}
use Rattle.wq_names.proofs.comment.lead.Given as goal

-- all bytes so far are a `#` or blanks
abbrev pub invariant-loop-len : goal.invariant-loop-len
invariant-loop-len l = (k : ℕ) → k < l.len → is_lead (get_or l.bytes k 0) ≡ true
