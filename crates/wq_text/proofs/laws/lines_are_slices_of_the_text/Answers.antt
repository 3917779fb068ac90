use Rattle.std.proofs.Common.{◌≡◌, ◌+◌, ◌≤◌, length, ◌∙◌, arith}
use Rattle.std.specs.List.{slice_range}
use Rattle.std.proofs.lemmas.List.Elements.{All-weaker}
use Rattle.wq_text.specs.Lines.{pieces, lines_of}
use Rattle.wq_text.proofs.SliceLaws.{LineStands, LineStands-lines_of, slice_range-StandsAt, within-StandsAt, no-lines_from, AllPairs-lines_of, map-lines_from}
use Rattle.wq_text.proofs.laws.lines_are_slices_of_the_text.Goals as goal

pub returns-clause-numbers : goal.returns-clause-numbers
returns-clause-numbers c = λ text k lt d. no-lines_from 1 0 k (pieces text) d lt ∙ omega arith

pub returns-clause-slices : goal.returns-clause-slices
returns-clause-slices c =
    λ text. All-weaker (LineStands text) (λ line. slice_range text line.start (line.start + length line.bytes) ≡ line.bytes)
    (λ line. slice_range-StandsAt text line.start line.bytes) (lines_of text) (LineStands-lines_of text)

pub returns-clause-within : goal.returns-clause-within
returns-clause-within c =
    λ text. All-weaker (LineStands text) (λ line. line.start + length line.bytes ≤ length text)
    (λ line. within-StandsAt text line.start line.bytes) (lines_of text) (LineStands-lines_of text)

pub returns-clause-in_order : goal.returns-clause-in_order
returns-clause-in_order c = AllPairs-lines_of

pub returns-clause-none_left_out : goal.returns-clause-none_left_out
returns-clause-none_left_out c = λ text. map-lines_from 1 0 (pieces text)
