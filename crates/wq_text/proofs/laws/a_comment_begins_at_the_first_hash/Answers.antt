use Rattle.wq_text.proofs.CommentLemmas.{IsBeforeComment-before_comment, before_comment-IsBeforeComment}
use Rattle.wq_text.proofs.laws.a_comment_begins_at_the_first_hash.Goals as goal

pub returns-clause-is : goal.returns-clause-is
returns-clause-is c = IsBeforeComment-before_comment

pub returns-clause-only : goal.returns-clause-only
returns-clause-only c = before_comment-IsBeforeComment
