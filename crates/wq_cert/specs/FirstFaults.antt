-- First faults: that a refusal at a line is about the first line at fault, said without a reader.
use Rattle.std.specs.Prelude.{◌≡◌, ℕ, ◌<◌, ◌≤◌, List, length, map, take, Result, Err, IfErr}
use Rattle.wq_text.specs.Lines.{LineView, lines_of}
use Rattle.wq_cert.specs.declared.fault.CertError.{CertError}
use Rattle.wq_cert.specs.Texts.{cert_refusal}
use Rattle.wq_cert.specs.Spelled.{KeepsLimits}

-- the line of a fault, or 0 if no line is meant
abbrev pub line_of : CertError → ℕ
line_of fault = (cert_refusal fault).line

-- the bytes of each line of a text
abbrev pub line_texts : List ℕ → List (List ℕ)
line_texts text = map (λ (line : LineView). line.bytes) (lines_of text)

-- the first n lines of a text
abbrev pub first_lines : ℕ → List ℕ → List (List ℕ)
first_lines n text = take n (line_texts text)

-- a value is read, or no line is at fault: the text ends too early, or an item is on no workqueue
abbrev pub NoLineIsAtFault : {V : Type 0} → Result V CertError → Type 0
NoLineIsAtFault r = IfErr r (λ fault. line_of fault ≡ 0)

-- the fault of a text is that of the first line at fault: the text has that line; any
-- text within the limits that begins with the lines up to it has the same fault,
-- whatever comes after them; and in a text of fewer of these lines no line is at fault
pub record IsOfTheFirstLine {V : Type 0} (read : List ℕ → Result V CertError) (text : List ℕ) (fault : CertError)
    : Type 0 where
  pub stands : line_of fault ≤ length (line_texts text)
  pub settled : (other : List ℕ) → KeepsLimits other
      → first_lines (line_of fault) other ≡ first_lines (line_of fault) text → read other ≡ Err fault
  pub none_before : (front : List ℕ) (n : ℕ) → KeepsLimits front → n < line_of fault
      → line_texts front ≡ first_lines n text → NoLineIsAtFault (read front)
