-- Texts of certificates: their limits, what they say, or their first fault.
use Rattle.std.specs.Prelude.{◌≡◌, ℕ, List, Option, Some, None, Result, Err}
use Rattle.wq_text.specs.declared.text.TextError.{TextError}
use Rattle.wq_text.specs.declared.text.TextError.TheVariants.{TextTooLong, LineTooLong}
use Rattle.wq_text.specs.Lines.{lines_of}
use Rattle.wq_text.specs.Limits.{limit_fault}
use Rattle.wq_text.specs.Refusal.{Refusal}
use Rattle.wq_groups.specs.Partition.{Partition}
use Rattle.wq_groups.specs.Assignment.{Assignment}
use Rattle.wq_core.specs.Workqueues.{Workqueues}
use Rattle.wq_core.specs.declared.step.Step.{Step}
use Rattle.wq_cert.specs.declared.fault.CertError.{CertError}
use Rattle.wq_cert.specs.declared.fault.CertError.TheVariants.{BadCertLine, NotAllItems, GroupSplit, NumberOutOfRange}
use Rattle.wq_cert.specs.declared.fault.CertError.TheVariants.{OutOfMemory}
use Rattle.wq_cert.specs.Certificate.{Certificate}
use Rattle.wq_cert.specs.Lines.{CertLine, cert_lines}
use Rattle.wq_cert.specs.Reading.{answer_reading, assignment_reading, lanes_reading, run_reading}

-- how many bytes a certificate may have
abbrev pub max_certificate : ℕ
max_certificate = 8388608

-- how many bytes a line of it may have
abbrev pub max_certificate_line : ℕ
max_certificate_line = 524288

-- if the text or a line is above its limit, that is a fault of form: at no line, or at the first that is too long
abbrev pub unless_too_long : {V : Type 0} → Option TextError → Result V CertError → Result V CertError
unless_too_long None rest = rest
unless_too_long (Some TextTooLong) rest = Err (BadCertLine 0)
unless_too_long (Some (LineTooLong line)) rest = Err (BadCertLine line)

-- the limits are judged before all else, even for lines without words
abbrev pub text_reading : {V : Type 0} → (List CertLine → Result V CertError) → List ℕ → Result V CertError
text_reading read text =
    unless_too_long (limit_fault max_certificate max_certificate_line text) (read (cert_lines (lines_of text)))

-- what the text of an answer says, for items with these names in these groups
abbrev pub answer_of : List (List ℕ) → Partition → List ℕ → Result Certificate CertError
answer_of names p text = text_reading (answer_reading names p) text

-- what the text of an assignment says
abbrev pub assignment_of_text : List (List ℕ) → Partition → List ℕ → Result Assignment CertError
assignment_of_text names p text = text_reading (assignment_reading names p) text

-- the workqueues that the text of an assignment says there are, some of which may have no rescuer
abbrev pub workqueues_of_text : List (List ℕ) → Partition → List ℕ → Result Workqueues CertError
workqueues_of_text names p text = text_reading (lanes_reading names p) text

-- what the text of a run says
abbrev pub run_of : List (List ℕ) → List ℕ → Result (List Step) CertError
run_of names text = text_reading (run_reading names) text

-- ---- faults

-- what a call returns instead of a value: that memory ran out, or else the first fault
abbrev pub IsCertFaultOf : {V : Type 0} → CertError → Result V CertError → Type 0
IsCertFaultOf (BadCertLine line) r = r ≡ Err (BadCertLine line)
IsCertFaultOf (NotAllItems line) r = r ≡ Err (NotAllItems line)
IsCertFaultOf (GroupSplit line) r = r ≡ Err (GroupSplit line)
IsCertFaultOf (NumberOutOfRange line) r = r ≡ Err (NumberOutOfRange line)
IsCertFaultOf OutOfMemory r = Unit {0}

-- code 40, 41, 42 or 43 with the line, or with 0 if no line is meant; 20 without one
abbrev pub cert_refusal : CertError → Refusal
cert_refusal (BadCertLine line) = record { code = 40; line = line }
cert_refusal (NotAllItems line) = record { code = 41; line = line }
cert_refusal (GroupSplit line) = record { code = 42; line = line }
cert_refusal (NumberOutOfRange line) = record { code = 43; line = line }
cert_refusal OutOfMemory = record { code = 20; line = 0 }
