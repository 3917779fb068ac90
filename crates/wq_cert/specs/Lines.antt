-- The lines of a certificate: those of the text that hold a word.
use Rattle.std.specs.Prelude.{ℕ, ◌==◌, not, Bool, List, length, map, filter}
use Rattle.wq_text.specs.Lines.{LineView}
use Rattle.wq_text.specs.Words.{WordView, words_of}

-- a line: its number in the text, from 1, and its words
pub record CertLine : Type 0 where
  pub no : ℕ
  pub words : List (List ℕ)

-- the bytes of words
abbrev pub bytes_of : List WordView → List (List ℕ)
bytes_of words = map (λ (w : WordView). w.bytes) words

-- whether a line holds a word
abbrev pub holds_word : LineView → Bool
holds_word line = not (length (words_of line) == 0)

-- the lines that hold a word; the others are skipped
abbrev pub filled : List LineView → List LineView
filled lines = filter holds_word lines

-- a line as its number and its words
abbrev pub cert_line : LineView → CertLine
cert_line line = record { no = line.no; words = bytes_of (words_of line) }

-- the lines of a certificate, given the lines of its text
abbrev pub cert_lines : List LineView → List CertLine
cert_lines lines = map cert_line (filled lines)
