use Rattle.std.proofs.Common.{ap, ◌∙◌}
use Rattle.wq_text.specs.Comments.{before_comment}
use Rattle.wq_text.proofs.CommentLemmas.{before_comment-at_hash, before_comment-no_hash}
use Rattle.wq_text.proofs.line.Line.content.Goals as goal

pub returns-in-Some : goal.returns-in-Some
returns-in-Some c = before_comment-at_hash c.bytes-bytes.result.now c.in-Some.hash c.in-Some.ensures ∙ ap before_comment c.bytes-bytes.ensures

pub returns-in-None : goal.returns-in-None
returns-in-None c = before_comment-no_hash c.bytes-bytes.result.now c.in-None.ensures ∙ ap before_comment c.bytes-bytes.ensures
