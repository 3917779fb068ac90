use Rattle.std.proofs.Common.{◌≡◌, ◌+◌, length, arith}
use Rattle.std.specs.List.{All, slice_range}
use Rattle.std.proofs.lemmas.List.Elements.{All-weaker}
use Rattle.wq_text.specs.Lines.{lines_of}
use Rattle.wq_text.specs.Comments.{before_comment}
use Rattle.wq_text.specs.Words.{WordView, words_of}
use Rattle.wq_text.proofs.CommentLemmas.{length-before_comment-le}
use Rattle.wq_text.proofs.SliceLaws.{LineStands, WordStands, LineStands-lines_of, WordStands-words_of, slice_range-StandsAt}
use Rattle.wq_text.proofs.WordLaws.{AreTheWords-words_from, IsBetween, IsBetween-AreTheWords, AllPairs-AreTheWords}
use Rattle.wq_text.proofs.laws.words_are_slices_of_the_text.Goals as goal

pub returns-clause-slices : goal.returns-clause-slices
returns-clause-slices c =
    λ text.
    let IsSlice : WordView → Type 0 = λ w. slice_range text w.start (w.start + length w.bytes) ≡ w.bytes in
    All-weaker (LineStands text) (λ line. All IsSlice (words_of line))
    (λ line s. All-weaker (WordStands text) IsSlice (λ w. slice_range-StandsAt text w.start w.bytes) (words_of line) (WordStands-words_of text line s))
    (lines_of text) (LineStands-lines_of text)

pub returns-clause-within : goal.returns-clause-within
returns-clause-within c =
    λ line.
    let bs = before_comment line.bytes in
    let shorter = length-before_comment-le line.bytes in
    All-weaker (IsBetween line.start (line.start + length bs)) (IsBetween line.start (line.start + length line.bytes))
    (λ word between. (between.0, omega (arith, between.1))) (words_of line)
    (IsBetween-AreTheWords line.start bs (words_of line) (AreTheWords-words_from line.start bs))

pub returns-clause-in_order : goal.returns-clause-in_order
returns-clause-in_order c = λ line. AllPairs-AreTheWords line.start (before_comment line.bytes) (words_of line) (AreTheWords-words_from line.start (before_comment line.bytes))
