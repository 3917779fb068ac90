use Rattle.std.proofs.Common.{◌<◌, ◌^◌, List, length, take, subst, arith}
use Rattle.std.proofs.lemmas.List.{length-take-le}
use Rattle.wq_text.specs.Comments.{before_comment}
use Rattle.wq_text.specs.Words.{WordView, words_from}
use Rattle.wq_text.proofs.CommentLemmas.{length-before_comment-le}
use Rattle.wq_text.proofs.WordLemmas.{length-words_from-le}
use Rattle.wq_text.proofs.word.Words.again.Goals as goal

pub returns-clause-few : goal.returns-clause-few
returns-clause-few c =
    let s = c.self.inside in
    let line = take s.left s.text.now in
    let few : length (words_from s.start (before_comment line)) < 2 ^ 32 =
    omega (arith, length-words_from-le s.start (before_comment line), length-before_comment-le line, length-take-le s.left s.text.now c.self.invariant.0, c.self.invariant.1) in
    subst (λ (ws : List WordView). length ws < 2 ^ 32) c.self.view_is few
