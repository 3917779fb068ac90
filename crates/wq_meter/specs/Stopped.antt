-- Why a command didn't end.
use Rattle.std.specs.Prelude.{ℕ}
use Rattle.wq_meter.specs.declared.fault.Fault.{Fault}
use Rattle.wq_meter.specs.declared.stopped.Stopped.{Stopped}
use Rattle.wq_meter.specs.declared.stopped.Stopped.TheVariants.{Faulted, Unanswered}

-- if the command has no answer, this holds for the reason
abbrev pub IfUnanswered : {S : Type 0} → (S → Type 0) → Stopped S → Type 0
IfUnanswered holds (Faulted fault) = Unit {0}
IfUnanswered holds (Unanswered stop) = holds stop
