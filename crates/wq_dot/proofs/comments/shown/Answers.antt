use Rattle.std.proofs.Common.{sym, arith}
use Rattle.std.proofs.lemmas.List.{length-take-le, take_all}
use Rattle.wq_dot.proofs.comments.shown.Goals as goal

pub slice_bounds-result-end : goal.slice_bounds-result-end
slice_bounds-result-end c = sym (length-take-le 256 c.args.comment.now (omega (arith, c.if-comment-gt-MAX_COMMENT.true)))

pub returns-else-comment-gt-MAX_COMMENT : goal.returns-else-comment-gt-MAX_COMMENT
returns-else-comment-gt-MAX_COMMENT c = sym (take_all 256 c.args.comment.now (omega (arith, c.if-comment-gt-MAX_COMMENT.false)))
