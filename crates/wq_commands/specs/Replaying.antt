-- The answer to a declaration, an assignment and a run: how the run ends.
use Rattle.std.specs.Prelude.{◌≡◌, ℕ, List, [], ◌∷◌, codes, decimal, MatchResult, Option, Some, None}
use Rattle.wq_core.specs.declared.step.Step.{Step}
use Rattle.wq_core.specs.Workqueues.{Workqueues, wiring_of}
use Rattle.wq_core.specs.Readings.{reading}
use Rattle.wq_core.specs.Wiring.{Wiring}
use Rattle.wq_text.specs.LineText.{line_text}
use Rattle.wq_cert.specs.Part.{made_of}
use Rattle.wq_cert.specs.Texts.{workqueues_of_text, cert_refusal}
use Rattle.wq_checker.specs.declared.run.RunEnd.{RunEnd}
use Rattle.wq_checker.specs.declared.run.RunEnd.TheVariants.{NotLawful, Deadlock, Stuck, Free}
use Rattle.wq_checker.specs.RunEnds.{EndsAs}
use Rattle.wq_commands.specs.declared.end.End.{End}
use Rattle.wq_commands.specs.declared.end.End.TheVariants.{Good, Bad}
use Rattle.wq_groups.specs.DeclaredGroups.{declared_waits, Declared}
use Rattle.wq_commands.specs.Answer.{PrintsRefusal}
use Rattle.wq_commands.specs.Declaration.{declaration}

-- the words of an answer: `open`, `deadlock`, `stuck` or `not lawful N`
abbrev pub replay_words : RunEnd → List (List ℕ)
replay_words Free = codes "open" ∷ []
replay_words Deadlock = codes "deadlock" ∷ []
replay_words Stuck = codes "stuck" ∷ []
replay_words (NotLawful n) = codes "not" ∷ codes "lawful" ∷ decimal n ∷ []

-- a run that doesn't end stuck is good; all else is bad
abbrev pub replay_end : RunEnd → End
replay_end Free = Good
replay_end Deadlock = Bad
replay_end Stuck = Bad
replay_end (NotLawful n) = Bad

-- what the machine sees: the reading that keeps the unsure flushes at these places, or all flushes
abbrev pub wiring_read : Declared → Workqueues → Option (List ℕ) → Wiring
wiring_read s ws None = wiring_of (declared_waits s) ws
wiring_read s ws (Some kept) = reading (wiring_of (declared_waits s) ws) kept

-- the end of these steps is printed, under this assignment, in the reading that keeps these unsure flushes, or with all
-- flushes
pub record AnswersReplay (s : Declared) (ws : Workqueues) (kept : Option (List ℕ)) (steps : List Step) (end : End)
    (out : List ℕ) : Type 0 where
  pub run_end : RunEnd
  pub ends : EndsAs (wiring_read s ws kept) steps run_end
  pub status : end ≡ replay_end run_end
  pub printed : out ≡ line_text (replay_words run_end)

-- the answer to a run under an assignment of a declaration
abbrev pub ReplaysAssigned : Declared → Workqueues → List ℕ → End → List ℕ → Type 0
ReplaysAssigned s ws text end out =
    MatchResult (made_of s.table.names s.table.waits text)
    (λ run. AnswersReplay s ws run.0 run.1 end out)
    (λ fault. PrintsRefusal (cert_refusal fault) end out)

-- the answer to an assignment of a declaration and a run
abbrev pub ReplaysDeclared : Declared → List ℕ → List ℕ → End → List ℕ → Type 0
ReplaysDeclared s assigned text end out =
    MatchResult (workqueues_of_text s.table.names s.partition assigned)
    (λ ws. ReplaysAssigned s ws text end out)
    (λ fault. PrintsRefusal (cert_refusal fault) end out)

-- the answer to the texts of a declaration, an assignment and a run; if any is
-- refused, the refusal of the first such text is printed
abbrev pub ReplaysRun : List ℕ → List ℕ → List ℕ → End → List ℕ → Type 0
ReplaysRun declared assigned text end out =
    MatchResult (declaration declared) (λ s. ReplaysDeclared s assigned text end out) (λ r. PrintsRefusal r end out)
