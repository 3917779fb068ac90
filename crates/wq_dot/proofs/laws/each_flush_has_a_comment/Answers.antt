use Rattle.wq_dot.proofs.CommentCounts.{one_comment_each}
use Rattle.wq_dot.proofs.laws.each_flush_has_a_comment.Goals as goal

pub returns : goal.returns
returns c = one_comment_each
