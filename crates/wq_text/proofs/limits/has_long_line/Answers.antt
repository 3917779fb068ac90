use Rattle.std.proofs.Common.{◌+◌, length, sym, ap, ◌∙◌, arith}
use Rattle.std.proofs.lemmas.List.{take_rest}
use Rattle.wq_text.proofs.LongLines.{has_long, has_long-behind_first, has_long-behind_last_feed, has_long-few}
use Rattle.wq_text.proofs.limits.has_long_line.Goals as goal

pub loop-rest-preserved-in-Some : goal.loop-rest-preserved-in-Some
loop-rest-preserved-in-Some c =
    let rest = c.loop-rest.rest.now in
    ap (has_long c.args.limit) (take_rest rest (c.in-Some.feed + 1)) ∙ has_long-behind_last_feed c.args.limit c.in-Some.feed rest (omega arith) c.in-Some.ensures ∙ c.loop-rest.invariant

pub loop-rest-preserved : goal.loop-rest-preserved
loop-rest-preserved c =
    has_long-behind_first c.args.limit c.loop-rest.rest.now c.first_cut-cut.result.rest.now (record { bytes = c.first_cut-cut.result.piece.now; ended = c.first_cut-cut.result.ended })
    c.first_cut-cut.ensures.first (let short = c.if-line_bytes-limit.false in omega (arith, ap length c.line_bytes.ensures.bytes)) ∙ c.loop-rest.invariant

pub returns : goal.returns
returns c = sym (has_long-few c.args.limit c.loop-rest.rest.now (omega arith)) ∙ c.loop-rest.invariant
