-- The files of a command: they are opened, and have texts, to which the command has an answer.
use Rattle.std.specs.Prelude.{◌≡◌, ℕ, List, [], Option, Some, None, Result}
use Rattle.clap.specs.Words.{Text}
use Rattle.wq_text.specs.Refusal.{Refusal}
use Rattle.wq_meter.specs.Shell.{Given, kept}
use Rattle.wq_meter.specs.declared.texts.Limits.{Limits}
use Rattle.wq_groups.specs.DeclaredGroups.{Declared}
use Rattle.wq_commands.specs.Shell.{AnswersTexts}
use Rattle.wq_commands.specs.declared.end.End.{End}
use Rattle.wqplan.specs.declared.command_line.Files.{Files}
use Rattle.wqplan.specs.declared.command_line.Files.TheVariants.{One, Three, Two, Unnamed}

-- opening each of these paths gave its reader
abbrev pub AreOpened : {F : Type 0} → (Text → Option F → Type 0) → Files Text → Files F → Type 0
AreOpened Opens Unnamed Unnamed = Unit {0}
AreOpened Opens (One first) (One a) = Opens first (Some a)
AreOpened Opens (Two first second) (Two a b) = Opens first (Some a) × Opens second (Some b)
AreOpened Opens (Three first second third) (Three a b c) =
    Opens first (Some a) × Opens second (Some b) × Opens third (Some c)
AreOpened Opens _ _ = ⊥

-- the first of these files, if there is one
abbrev pub first_if : {T : Type 0} → Files T → Option T
first_if Unnamed = None
first_if (One first) = Some first
first_if (Two first second) = Some first
first_if (Three first second third) = Some first

-- a text is that of the file at this path if the command has such a text, and empty if not
abbrev pub HoldsIf : (Text → List ℕ → Type 0) → Option ℕ → Text → List ℕ → Type 0
HoldsIf Holds None path text = text ≡ []
HoldsIf Holds (Some limit) path text = Holds path text

-- the files at these paths have these texts, as far as a command with these limits has them. If no file is named,
-- the first text is that of standard input
abbrev pub HaveTexts : (Text → List ℕ → Type 0) → (List ℕ → Type 0) → Limits → Files Text → Given → Type 0
HaveTexts Holds Input limits Unnamed texts = Input texts.first
HaveTexts Holds Input limits (One first) texts = Holds first texts.first
HaveTexts Holds Input limits (Two first second) texts =
    Holds first texts.first × HoldsIf Holds limits.second second texts.second
HaveTexts Holds Input limits (Three first second third) texts =
    Holds first texts.first × HoldsIf Holds limits.second second texts.second
    × HoldsIf Holds limits.third third texts.third

-- a command with these limits ends like this, with this answer, on the kept part of its texts
abbrev pub EndsIn : {F : Type 0} → (Given → Type 0) → Limits → (Declared → Given → F → End → List ℕ → Type 0) → End
    → List ℕ → Type 0
EndsIn {F} Have limits Answers end out =
    (texts : Given) × Have texts
    × (found : Result F Refusal) × AnswersTexts Answers (kept limits texts) found end out
