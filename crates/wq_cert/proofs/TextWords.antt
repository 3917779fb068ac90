-- The words of a text, and those of its lines as a reader takes them.
use Rattle.std.proofs.Common.{◌≡◌, ℕ, List, [], ◌∷◌, map, refl, ap}
use Rattle.wq_text.specs.Lines.{LineView, lines_of}
use Rattle.wq_text.specs.Words.{words_of}
use Rattle.wq_cert.specs.Lines.{bytes_of, cert_line, cert_lines, filled}
use Rattle.wq_cert.specs.Spelled.{words_of_lines, words_of_text}

words_of_lines-map : (lines : List LineView) → words_of_lines (map cert_line lines) ≡ map (λ (line : LineView). bytes_of (words_of line)) lines
words_of_lines-map [] = refl
words_of_lines-map (line ∷ lines) = ap (λ (ws : List (List (List ℕ))). bytes_of (words_of line) ∷ ws) (words_of_lines-map lines)

-- the words of a text are those of its lines that hold one
pub words_of_lines-text : (text : List ℕ) → words_of_lines (cert_lines (lines_of text)) ≡ words_of_text text
words_of_lines-text text = words_of_lines-map (filled (lines_of text))
