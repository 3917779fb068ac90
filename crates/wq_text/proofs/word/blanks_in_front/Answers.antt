use Rattle.std.proofs.Common.{length, sym, ◌∙◌, arith}
use Rattle.std.proofs.lemmas.List.Sums.{prefix_len_is}
use Rattle.wq_text.specs.Words.{is_blank}
use Rattle.wq_text.proofs.word.blanks_in_front.Goals as goal

pub returns-then-not-is_blank : goal.returns-then-not-is_blank
returns-then-not-is_blank c =
    sym (prefix_len_is is_blank c.args.bytes.now c.loop-len.len 0 (omega arith) c.loop-len.invariant (λ lt. sym c.is_blank.ensures ∙ c.if-not-is_blank.true))

pub returns : goal.returns
returns c =
    let bs = c.args.bytes.now in
    sym (prefix_len_is is_blank bs (length bs) 0 (omega arith) (λ k lt. c.loop-len.invariant k (omega arith)) (λ lt. absurd (omega arith)))
