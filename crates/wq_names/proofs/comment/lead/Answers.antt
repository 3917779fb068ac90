use Rattle.std.proofs.Common.{length, sym, ◌∙◌, arith}
use Rattle.std.proofs.lemmas.List.Sums.{prefix_len_is}
use Rattle.wq_names.specs.Comments.{is_lead}
use Rattle.wq_names.proofs.comment.lead.Goals as goal

pub returns-then-not-is_lead : goal.returns-then-not-is_lead
returns-then-not-is_lead c =
    sym (prefix_len_is is_lead c.args.bytes.now c.loop-len.len 0 (omega arith) c.loop-len.invariant (λ lt. sym c.is_lead.ensures ∙ c.if-not-is_lead.true))

pub returns : goal.returns
returns c =
    let bs = c.args.bytes.now in
    sym (prefix_len_is is_lead bs (length bs) 0 (omega arith) (λ k lt. c.loop-len.invariant k (omega arith)) (λ lt. absurd (omega arith)))
