-- A text that says which workqueues there are is within its limits.
use Rattle.std.proofs.Common.{◌≡◌, List, ℕ, Option, None, Some, Result, Ok, refl}
use Rattle.wq_text.specs.Lines.{lines_of}
use Rattle.wq_text.specs.Limits.{limit_fault}
use Rattle.wq_text.specs.declared.text.TextError.{TextError}
use Rattle.wq_text.specs.declared.text.TextError.TheVariants.{LineTooLong, TextTooLong}
use Rattle.wq_groups.specs.Partition.{Partition}
use Rattle.wq_core.specs.Workqueues.{Workqueues}
use Rattle.wq_cert.specs.Lines.{cert_lines}
use Rattle.wq_cert.specs.Reading.{lanes_reading}
use Rattle.wq_cert.specs.Texts.{max_certificate, max_certificate_line, unless_too_long, workqueues_of_text}
use Rattle.wq_cert.specs.declared.fault.CertError.{CertError}

pub limits-read : (names : List (List ℕ)) (p : Partition) (text : List ℕ) (ws : Workqueues) → workqueues_of_text names p text ≡ Ok ws
    → limit_fault max_certificate max_certificate_line text ≡ None
limits-read names p text ws is = go (limit_fault max_certificate max_certificate_line text) (lanes_reading names p (cert_lines (lines_of text))) is where
  go : (fault : Option TextError) (rest : Result Workqueues CertError) → unless_too_long fault rest ≡ Ok ws → fault ≡ None
  go None rest e = refl
  go (Some TextTooLong) rest e = cc
  go (Some (LineTooLong line)) rest e = cc
