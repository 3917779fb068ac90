-- Limits: how long a text and a line of it may be.
use Rattle.std.specs.Prelude.{ℕ, List, length, nat_lt, if◌then◌else◌, Option, Some, find, option_map}
use Rattle.wq_text.specs.declared.text.TextError.{TextError}
use Rattle.wq_text.specs.declared.text.TextError.TheVariants.{TextTooLong, LineTooLong}
use Rattle.wq_text.specs.Lines.{LineView, lines_of}
use Rattle.wq_text.specs.Refusal.{Refusal}

-- the first line with more than this many bytes
abbrev pub first_long_line : ℕ → List LineView → Option LineView
first_long_line max_line lines = find (λ line. nat_lt max_line (length line.bytes)) lines

-- the first fault of the limits: the text is too long, or else the first line that is too long
abbrev pub limit_fault : ℕ → ℕ → List ℕ → Option TextError
limit_fault max_text max_line text =
    if nat_lt max_text (length text) then Some TextTooLong
    else option_map (λ (line : LineView). LineTooLong line.no) (first_long_line max_line (lines_of text))

-- code 1 without a line, or 2 with the line
abbrev pub text_refusal : TextError → Refusal
text_refusal TextTooLong = record { code = 1; line = 0 }
text_refusal (LineTooLong line) = record { code = 2; line = line }
