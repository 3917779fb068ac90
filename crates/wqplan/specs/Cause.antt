-- What a command needs before it reads, and what follows from how it ends.
use Rattle.std.specs.Prelude.{◌≡◌, ◌⊎◌, ℕ, ◌+◌, ◌≤◌, List, Option, Some, None, Result, Ok, Err}
use Rattle.std.specs.List.{All, Any}
use Rattle.wq_meter.specs.declared.fault.Fault.TheVariants.{Memory, Read, Write}
use Rattle.wq_meter.specs.Meter.{LosesPrefix, Meter}
use Rattle.wq_meter.specs.declared.texts.Limits.{Limits}
use Rattle.wq_commands.specs.Declaration.{max_declaration}
use Rattle.wq_commands.specs.declared.end.End.{End}
use Rattle.wq_run.specs.declared.fault.CommandFault.{CommandFault}
use Rattle.wq_run.specs.declared.fault.CommandFault.TheVariants.{Common, Tally, Thread}
use Rattle.clap.specs.Words.{Text}
use Rattle.wqplan.specs.declared.command_line.Files.{Files}
use Rattle.wqplan.specs.declared.command_line.Files.TheVariants.{Unnamed}
use Rattle.wqplan.specs.declared.commands.Verb.{Verb}
use Rattle.wqplan.specs.declared.commands.Verb.TheVariants.{Explain, Run}
use Rattle.wqplan.specs.CommandLine.{Asked, listed}
use Rattle.wqplan.specs.Ended.{limits_of}

-- the file at this path was opened
abbrev pub IsOpened : {F : Type 0} → (Text → Option F → Type 0) → Text → Type 0
IsOpened {F} Opens path = (file : F) × Opens path (Some file)

-- a seed was drawn, and each of these files was opened
abbrev pub IsReady : {F : Type 0} → (Option ℕ → Type 0) → (Text → Option F → Type 0) → List Text → Type 0
IsReady Seeds Opens files = ((seed : ℕ) × Seeds (Some seed)) × All (IsOpened Opens) files

-- there was no seed, or one of these files couldn't be opened
abbrev pub IsUnready : {F : Type 0} → (Option ℕ → Type 0) → (Text → Option F → Type 0) → List Text → Type 0
IsUnready Seeds Opens files = Seeds None ⊎ Any (λ path. Opens path None) files

-- a command with these files ended like this: `fault read` if it wasn't ready, or if a read may have failed; anything
-- else only after it was ready; and the faults that only `run` has, only if threads may be started
abbrev pub EndsReady : {F : Type 0} → (Option ℕ → Type 0) → (Text → Option F → Type 0) → List Text → Type 0 → Type 0
    → Result End CommandFault → Type 0
EndsReady Seeds Opens files MayFail MayStart (Ok end) = IsReady Seeds Opens files
EndsReady Seeds Opens files MayFail MayStart (Err (Common Read)) =
    IsUnready Seeds Opens files ⊎ (IsReady Seeds Opens files × MayFail)
EndsReady Seeds Opens files MayFail MayStart (Err (Common Write)) = IsReady Seeds Opens files
EndsReady Seeds Opens files MayFail MayStart (Err (Common Memory)) = IsReady Seeds Opens files
EndsReady Seeds Opens files MayFail MayStart (Err Thread) = IsReady Seeds Opens files × MayStart
EndsReady Seeds Opens files MayFail MayStart (Err Tally) = IsReady Seeds Opens files × MayStart

-- a command ended like this that reads nothing and starts no threads
abbrev pub EndsAlone : Result End CommandFault → Type 0
EndsAlone (Ok end) = Unit {0}
EndsAlone (Err (Common Read)) = ⊥
EndsAlone (Err (Common Write)) = Unit {0}
EndsAlone (Err (Common Memory)) = Unit {0}
EndsAlone (Err Thread) = ⊥
EndsAlone (Err Tally) = ⊥

-- this holds, if a command has no such text
abbrev pub Unless : Option ℕ → Type 0 → Type 0
Unless None Holds = Holds
Unless (Some limit) Holds = Unit {0}

-- a read may have failed: a read of standard input, if `InputFailed` holds, no file is named and the command has one
-- text. Any other read may always have failed, since no clause sees it
abbrev pub MayFail : Type 0 → Limits → Files Text → Type 0
MayFail InputFailed limits Unnamed = Unless limits.second (Unless limits.third InputFailed)
MayFail InputFailed limits _ = Unit {0}

-- only `run` starts threads
abbrev pub MayStart : Verb → Type 0
MayStart Run = Unit {0}
MayStart _ = ⊥

-- a command with these files ended like this. `explain` reads nothing
abbrev pub EndsBy : {F : Type 0} → (Option ℕ → Type 0) → (Text → Option F → Type 0) → Type 0 → Verb → Files Text
    → Result End CommandFault → Type 0
EndsBy Seeds Opens InputFailed Explain files result = EndsAlone result
EndsBy Seeds Opens InputFailed verb files result =
    EndsReady Seeds Opens (listed files) (MayFail InputFailed (limits_of verb files) files) (MayStart verb) result

-- the command that is asked for ended like this
abbrev pub IsCaused : {F : Type 0} → (Option ℕ → Type 0) → (Text → Option F → Type 0) → Type 0 → Asked
    → Result End CommandFault → Type 0
IsCaused Seeds Opens InputFailed asked result = EndsBy Seeds Opens InputFailed asked.verb asked.files result

-- what is taken from standard input if no file is named: a text up to the first byte past this limit, in at most as
-- many calls; else nothing
abbrev pub TakesInput : {I : Type 0} → (I → Option (List ℕ)) → Meter I → Meter I → ℕ → Files Text → Type 0
TakesInput remaining old new limit Unnamed =
    LosesPrefix remaining old new (limit + 1) × (new.calls ≤ old.calls + (limit + 1))
TakesInput remaining old new limit _ = new ≡ old

-- what a command takes from standard input: a declaration, if no file is named; `explain` takes nothing
abbrev pub ReadsBy : {I : Type 0} → (I → Option (List ℕ)) → Meter I → Meter I → Verb → Files Text → Type 0
ReadsBy remaining old new Explain files = new ≡ old
ReadsBy remaining old new verb files = TakesInput remaining old new max_declaration files

-- what the command that is asked for takes from standard input
abbrev pub ReadsInput : {I : Type 0} → (I → Option (List ℕ)) → Meter I → Meter I → Asked → Type 0
ReadsInput remaining old new asked = ReadsBy remaining old new asked.verb asked.files
