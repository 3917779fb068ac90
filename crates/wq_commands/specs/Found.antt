-- What a command finds in the texts behind a declaration.
use Rattle.std.specs.Prelude.{◌≡◌, ℕ, List, Result, Ok, Err}
use Rattle.wq_text.specs.Refusal.{Refusal}
use Rattle.wq_cert.specs.declared.fault.CertError.{CertError}
use Rattle.wq_cert.specs.declared.fault.CertError.TheVariants as faults
use Rattle.wq_cert.specs.Texts.{cert_refusal}
use Rattle.wq_commands.specs.declared.end.End.{End}
use Rattle.wq_commands.specs.declared.found.Found.{Found}
use Rattle.wq_commands.specs.declared.found.Found.TheVariants.{Refused}
use Rattle.wq_commands.specs.declared.found.Which.{Which}
use Rattle.wq_commands.specs.Answer.{PrintsRefusal}

-- this text is refused for this
abbrev pub refused_for : {T : Type 0} → Which → Refusal → Found T
refused_for which r = Refused which r.code r.line

-- the answer in place of this text: its refusal. Out of memory has no answer
abbrev pub IsUnread : {T : Type 0} → Which → CertError → Found T → End → List ℕ → Type 0
IsUnread which faults.OutOfMemory found end out = ⊥
IsUnread which fault found end out =
    (found ≡ refused_for which (cert_refusal fault)) × PrintsRefusal (cert_refusal fault) end out

-- the answer to a text that is read so: what is found in it and answered, or its refusal
abbrev pub AnswersIn : {V T : Type 0} → Which → Result V CertError → (V → Found T → End → List ℕ → Type 0) → Found T
    → End → List ℕ → Type 0
AnswersIn which (Ok v) Answers found end out = Answers v found end out
AnswersIn which (Err fault) Answers found end out =
    (found ≡ refused_for which (cert_refusal fault)) × PrintsRefusal (cert_refusal fault) end out
