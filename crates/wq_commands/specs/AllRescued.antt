-- The answers of `deadlock` and of `replay` to workqueues each of which has a rescuer: they speak of an assignment
-- alone.
use Rattle.std.specs.Prelude.{◌≡◌, ℕ, List, Option, Some, None, MatchResult}
use Rattle.wq_groups.specs.Assignment.{Assignment, IsAssignment}
use Rattle.wq_core.specs.declared.step.Step.{Step}
use Rattle.wq_core.specs.Readings.{reading}
use Rattle.wq_core.specs.Wiring.{Wiring, wiring}
use Rattle.wq_core.specs.Deadlock.{IsSafe}
use Rattle.wq_deadlock.specs.Verdict.{IsDeadlock}
use Rattle.wq_text.specs.LineText.{line_text}
use Rattle.wq_cert.specs.Part.{made_of}
use Rattle.wq_cert.specs.RunText.{run_text}
use Rattle.wq_cert.specs.Texts.{assignment_of_text, cert_refusal}
use Rattle.wq_checker.specs.declared.run.RunEnd.{RunEnd}
use Rattle.wq_checker.specs.RunEnds.{EndsAs}
use Rattle.wq_commands.specs.declared.end.End.{End}
use Rattle.wq_commands.specs.declared.end.End.TheVariants.{Good, Bad, Refused}
use Rattle.wq_groups.specs.DeclaredGroups.{declared_waits, Declared}
use Rattle.wq_commands.specs.Answer.{PrintsRefusal}
use Rattle.wq_commands.specs.Deadlocking.{safe_text}
use Rattle.wq_commands.specs.Replaying.{replay_words, replay_end}
use Rattle.wq_commands.specs.Declaration.{declaration}

-- the verdict on an assignment of a declaration's groups is printed: `safe` if no run ends stuck; else the
-- deadlocking run. This is the run of the circle in which the workqueues wait. It ends stuck, with each item queued
-- once and flushing as declared
abbrev pub JudgesAssignment : Declared → Assignment → End → List ℕ → Type 0
JudgesAssignment s a Good out =
    IsAssignment s.partition.groups a × IsSafe (wiring (declared_waits s) a) × (out ≡ safe_text)
JudgesAssignment s a Bad out =
    (steps : List Step) × IsDeadlock (declared_waits s) a steps × (out ≡ run_text s.table.names steps)
JudgesAssignment s a Refused out = ⊥

-- the verdict on the texts of a declaration and an assignment, or the refusal of the first that is refused
abbrev pub JudgesAllRescued : List ℕ → List ℕ → End → List ℕ → Type 0
JudgesAllRescued declared text end out =
    MatchResult (declaration declared)
    (λ s. MatchResult (assignment_of_text s.table.names s.partition text)
    (λ a. JudgesAssignment s a end out)
    (λ fault. PrintsRefusal (cert_refusal fault) end out))
    (λ r. PrintsRefusal r end out)

-- what the machine sees: the reading that keeps the unsure flushes at these places, or all flushes
abbrev pub wiring_made : Declared → Assignment → Option (List ℕ) → Wiring
wiring_made s a None = wiring (declared_waits s) a
wiring_made s a (Some kept) = reading (wiring (declared_waits s) a) kept

-- the end of these steps is printed, under this assignment, in the reading that keeps these unsure flushes, or with all
-- flushes
pub record ReplaysSteps (s : Declared) (a : Assignment) (kept : Option (List ℕ)) (steps : List Step) (end : End)
    (out : List ℕ) : Type 0 where
  pub run_end : RunEnd
  pub ends : EndsAs (wiring_made s a kept) steps run_end
  pub status : end ≡ replay_end run_end
  pub printed : out ≡ line_text (replay_words run_end)

-- the answer to a run under an assignment of a declaration
abbrev pub ReplaysAssignment : Declared → Assignment → List ℕ → End → List ℕ → Type 0
ReplaysAssignment s a text end out =
    MatchResult (made_of s.table.names s.table.waits text)
    (λ run. ReplaysSteps s a run.0 run.1 end out)
    (λ fault. PrintsRefusal (cert_refusal fault) end out)

-- the answer to the texts of a declaration, an assignment and a run, or the refusal of the first that is refused
abbrev pub ReplaysAllRescued : List ℕ → List ℕ → List ℕ → End → List ℕ → Type 0
ReplaysAllRescued declared assigned text end out =
    MatchResult (declaration declared)
    (λ s. MatchResult (assignment_of_text s.table.names s.partition assigned)
    (λ a. ReplaysAssignment s a text end out)
    (λ fault. PrintsRefusal (cert_refusal fault) end out))
    (λ r. PrintsRefusal r end out)
