-- Growth: how far a text is read without a fault before memory is requested, and so when a reader may return that
-- memory ran out.
use Rattle.std.specs.Prelude.{◌≡◌, ℕ, ◌<◌, ◌≤◌, if◌then◌else◌, List, [], ◌∷◌, length, take, Result, Ok, codes}
use Rattle.wq_cert.specs.declared.fault.CertError.{CertError}
use Rattle.wq_cert.specs.FirstFaults.{NoLineIsAtFault}
use Rattle.wq_cert.specs.Forms.{begins_with}
use Rattle.wq_cert.specs.Lines.{CertLine}

-- the first n lines are there, and none of them is at fault
pub record BeginsWell {V : Type 0} (read : List CertLine → Result V CertError) (n : ℕ) (lines : List CertLine)
    : Type 0 where
  pub stand : n ≤ length lines
  pub no_fault : NoLineIsAtFault (read (take n lines))

-- the first of n lines is read
pub record ReadsOne {V : Type 0} (read : CertLine → Result V CertError) (n : ℕ) (lines : List CertLine) : Type 0 where
  pub line : CertLine
  pub rest : List CertLine
  pub stands : lines ≡ line ∷ rest
  pub some : 0 < n
  pub value : V
  pub is_read : read line ≡ Ok value

-- how many lines of an answer come before memory is requested: `circle N` and its first arc, or `plan K`
abbrev pub lines_before_memory : List CertLine → ℕ
lines_before_memory [] = 1
lines_before_memory (line ∷ lines) = if begins_with (codes "circle") line.words then 2 else 1
