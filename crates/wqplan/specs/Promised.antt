-- What the program promises of its answers, in terms of what its files have.
use Rattle.std.specs.Prelude.{◌≡◌, Bool, false, true, ℕ, List, [], ◌∷◌}
use Rattle.clap.specs.Words.{Text}
use Rattle.wq_meter.specs.Shell.{Given}
use Rattle.wq_commands.specs.declared.end.End.{End}
use Rattle.wq_commands.specs.declared.end.End.TheVariants.{Good}
use Rattle.wq_commands.specs.HangPromise.{KeepsHang, KeepsHold, KeepsVerdict}
use Rattle.wq_commands.specs.Promise.{KeepsPromise}
use Rattle.wq_commands.specs.YesIsTrue.{YesIsTrue}
use Rattle.wq_around_command.specs.Promise.{KeepsAround, YesIsTrueAround}
use Rattle.wq_circles.specs.CirclesPromise.{KeepsCircles, KeepsHeldCircles, KeepsOwnCircles}
use Rattle.wqplan.specs.declared.command_line.Files.{Files}
use Rattle.wqplan.specs.declared.commands.Verb.{Verb}
use Rattle.wqplan.specs.declared.commands.Verb.TheVariants.{Check, Circles, Deadlock, Hang, Plan}
use Rattle.wqplan.specs.CommandLine.{Asked, Behind, names_asked}
use Rattle.wqplan.specs.Ended.{EndsOn, HasTexts, has_second, has_third}

-- `circles`: without an assignment; with one; and where items with these names must go on, which stand behind it
abbrev pub KeepsAllCircles : Bool → List Text → Given → End → List ℕ → Type 0
KeepsAllCircles false names texts end out = KeepsOwnCircles texts.first end out
KeepsAllCircles true [] texts end out = KeepsCircles texts.first texts.second end out
KeepsAllCircles true (name ∷ names) texts end out =
    KeepsHeldCircles (name ∷ names) texts.first texts.second end out

-- `hang`, and where items with these names must go on
abbrev pub KeepsAllHangs : List Text → Given → End → List ℕ → Type 0
KeepsAllHangs [] texts end out = KeepsHang texts.first texts.second end out
KeepsAllHangs (name ∷ names) texts end out = KeepsHold (name ∷ names) texts.first texts.second end out

-- `plan`, around fixed workqueues or without any
abbrev pub KeepsAnyPlan : Bool → Given → End → List ℕ → Type 0
KeepsAnyPlan false texts end out = KeepsPromise texts.first end out
KeepsAnyPlan true texts end out = KeepsAround texts.first texts.second end out

-- a yes of `check`, around fixed workqueues or without any
abbrev pub KeepsYes : Bool → Given → List ℕ → Type 0
KeepsYes false texts out = YesIsTrue texts.first texts.second out
KeepsYes true texts out = YesIsTrueAround texts.first texts.second texts.third out

-- what holds of an answer to these texts: the answers of `plan`, `deadlock`, `hang` and `circles` keep their promises,
-- and a yes of `check` is true. The other commands promise how they end
abbrev pub Keeps : Verb → Files Text → Behind → Given → End → List ℕ → Type 0
Keeps Plan files behind texts end out = KeepsAnyPlan (has_second files) texts end out
Keeps Check files behind texts end out = end ≡ Good → KeepsYes (has_third files) texts out
Keeps Deadlock files behind texts end out = KeepsVerdict texts.first texts.second end out
Keeps Hang files behind texts end out = KeepsAllHangs (names_asked behind) texts end out
Keeps Circles files behind texts end out =
    KeepsAllCircles (has_second files) (names_asked behind) texts end out
Keeps _ files behind texts end out = Unit {0}

-- what is promised of the answer to the command that is asked for: it is the answer to the texts, and keeps its promise
abbrev pub PromisesAsAsked : (List ℕ → List ℕ → Type 0) → (List ℕ → Type 0) → Asked → End → List ℕ → Type 0
PromisesAsAsked Holds Input asked end out = (texts : Given) × HasTexts Holds Input asked.verb asked.files texts
    × EndsOn asked.verb asked.files asked.behind texts end out × Keeps asked.verb asked.files asked.behind texts end out
