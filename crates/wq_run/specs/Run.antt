-- What `run` reads: a text is taken from a reader, and answered.
use Rattle.std.specs.Prelude.{ℕ, ◌+◌, List, [], Option, Result, take}
use Rattle.wq_meter.specs.Meter.{Meter}
use Rattle.wq_meter.specs.Input.{GivesText}
use Rattle.wq_meter.specs.Shell.{Given}
use Rattle.wq_commands.specs.declared.end.End.{End}
use Rattle.wq_text.specs.Refusal.{Refusal}
use Rattle.wq_commands.specs.Declaration.{max_declaration}
use Rattle.wq_run.specs.Running.{RunsPlan, RunsTexts, IsRunnable}

-- this is the answer, with this many helpers, to the text that a reader had; the
-- reader gave it up to the first byte past the limit
pub record RunsInput {R : Type 0} (helpers : ℕ) (remaining : R → Option (List ℕ)) (old new : Meter R) (end : End)
    (out : List ℕ) : Type 0 where
  pub text : List ℕ
  pub given : GivesText remaining old new max_declaration text
  pub answer : RunsPlan helpers text end out

-- the text that a reader had declares items whose plan a runtime can have
pub record IsRunnableInput {R : Type 0} (remaining : R → Option (List ℕ)) (old new : Meter R) : Type 0 where
  pub text : List ℕ
  pub given : GivesText remaining old new max_declaration text
  pub runnable : IsRunnable text

-- the texts of a command with this text alone
abbrev pub only : List ℕ → Given
only text = record { first = text; second = []; third = [] }

-- a reader had a text. This is what is found, with this many helpers, in the part of it that was read, and this is the
-- answer. These bytes of the answer are written, and this is said of what was found
pub record IsAnsweredByRun {R : Type 0} (helpers : ℕ) (remaining : R → Option (List ℕ)) (old new : Meter R)
    (end : End) (IsWritten : List ℕ → Type 0) (IsTold : Given → Result End Refusal → Type 0) : Type 0 where
  pub text : List ℕ
  pub given : GivesText remaining old new max_declaration text
  pub found : Result End Refusal
  pub out : List ℕ
  pub finds : RunsTexts helpers (only (take (max_declaration + 1) text)) found end out
  pub answer : RunsPlan helpers text end out
  pub written : IsWritten out
  pub told : IsTold (only (take (max_declaration + 1) text)) found
