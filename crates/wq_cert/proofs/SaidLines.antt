-- Lines of which a first word `norescuer` is read as `wq`, or isn't.
use Rattle.std.proofs.Common.{◌≡◌, ℕ, true, false, List, [], ◌∷◌, map, refl, ap, ap₂}
use Rattle.wq_text.specs.Lines.{LineView}
use Rattle.wq_text.specs.Words.{words_of}
use Rattle.wq_cert.specs.Lines.{CertLine, bytes_of, cert_line}
use Rattle.wq_cert.specs.Noted.{said_line}
use Rattle.wq_cert.specs.Reading.{with_wq, as_wq}

with_wq-false : (words : List (List ℕ)) → with_wq false words ≡ words
with_wq-false [] = refl
with_wq-false (word ∷ words) = refl

pub said_line-false : (line : LineView) → said_line false line ≡ cert_line line
said_line-false line = λ t. record { no = line.no; words = with_wq-false (bytes_of (words_of line)) t }

pub said_lines-false : (lines : List LineView) → map (λ (line : LineView). said_line false line) lines ≡ map cert_line lines
said_lines-false [] = refl
said_lines-false (line ∷ lines) = ap₂ (λ (l : CertLine) (ls : List CertLine). l ∷ ls) (said_line-false line) (said_lines-false lines)

pub said_lines-true : (lines : List LineView) → map (λ (line : LineView). said_line true line) lines ≡ map as_wq (map cert_line lines)
said_lines-true [] = refl
said_lines-true (line ∷ lines) = ap (λ (ls : List CertLine). said_line true line ∷ ls) (said_lines-true lines)
