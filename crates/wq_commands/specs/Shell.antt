-- The shell of a command: its texts are taken from readers and answered, and more is said of what was found.
use Rattle.std.specs.Prelude.{◌≡◌, ℕ, List, [], Option, Some, None, Result, Ok, Err}
use Rattle.wq_text.specs.Refusal.{Refusal}
use Rattle.wq_meter.specs.Meter.{Meter}
use Rattle.wq_meter.specs.Shell.{Given, kept}
use Rattle.wq_meter.specs.declared.texts.Limits.{Limits}
use Rattle.wq_commands.specs.declared.end.End.{End}
use Rattle.wq_commands.specs.Answer.{PrintsRefusal}
use Rattle.wq_groups.specs.DeclaredGroups.{Declared}
use Rattle.wq_commands.specs.Declaration.{declaration}

-- ---- an answer, and what is said of it

-- what is found in texts that begin with a declaration, how the command ends, and its answer: what the command answers,
-- or the refusal of the declaration
abbrev pub AnswersTexts : {F : Type 0} → (Declared → Given → F → End → List ℕ → Type 0) → Given → Result F Refusal
    → End → List ℕ → Type 0
AnswersTexts Answers texts (Ok found) end out =
    (s : Declared) × (declaration texts.first ≡ Ok s) × Answers s texts found end out
AnswersTexts Answers texts (Err r) end out = (declaration texts.first ≡ Err r) × PrintsRefusal r end out

-- what is said of what was found in texts that begin with a declaration, or of the refusal of the declaration
abbrev pub SaysOfTexts : {F : Type 0} → (Declared → Given → F → Option (List ℕ) → Type 0)
    → (Given → Refusal → Option (List ℕ) → Type 0) → Given → Result F Refusal → Option (List ℕ) → Type 0
SaysOfTexts Says Refuses texts (Ok found) said =
    (s : Declared) × (declaration texts.first ≡ Ok s) × Says s texts found said
SaysOfTexts Says Refuses texts (Err r) said = Refuses texts r said

-- the readers had these texts; `found` is what was found in the kept part of them, with its answer; these bytes of the
-- answer are written, and this is said of what was found
pub record IsAnswered {F : Type 0} (limits : Limits) (From : Given → Type 0)
    (Answers : Given → Result F Refusal → List ℕ → Type 0) (IsWritten : List ℕ → Type 0)
    (IsTold : Given → Result F Refusal → Type 0) : Type 0 where
  pub texts : Given
  pub from : From texts
  pub found : Result F Refusal
  pub out : List ℕ
  pub answer : Answers (kept limits texts) found out
  pub written : IsWritten out
  pub told : IsTold (kept limits texts) found

-- ---- calls, side by side

-- the devices of a call, as it found them and as it left them
pub record Call (D S T W E : Type 0) : Type 0 where
  pub first : Meter D
  pub first_left : Meter D
  pub second : Meter S
  pub second_left : Meter S
  pub third : Meter T
  pub third_left : Meter T
  pub writer : Meter W
  pub writer_left : Meter W
  pub teller : Meter E
  pub teller_left : Meter E

-- a reader is known to have this text; if it isn't asked, the text is empty
abbrev pub IsTextIf : Option ℕ → Option (List ℕ) → List ℕ → Type 0
IsTextIf None known text = text ≡ []
IsTextIf (Some limit) known text = known ≡ Some text

-- the readers that a call found are known to have these texts
abbrev pub FindsTexts : {D S T W E : Type 0} → (D → Option (List ℕ)) → (S → Option (List ℕ)) → (T → Option (List ℕ))
    → Limits → Call D S T W E → Given → Type 0
FindsTexts first_known second_known third_known limits call texts =
    (first_known call.first.device ≡ Some texts.first)
    × IsTextIf limits.second (second_known call.second.device) texts.second
    × IsTextIf limits.third (third_known call.third.device) texts.third

-- a command has one answer at most to texts that declare this: one end, and one text that is written, whatever it finds
abbrev pub HasOneAnswerTo : {F : Type 0} → Declared → (Declared → Given → F → End → List ℕ → Type 0) → Type 0
HasOneAnswerTo {F} s Answers =
    (texts : Given) (found again : F) (end other : End) (out printed : List ℕ)
    → declaration texts.first ≡ Ok s
    → Answers s texts found end out → Answers s texts again other printed → (end ≡ other) × (out ≡ printed)

-- a command has one answer to its texts at most, whatever they declare
abbrev pub HasOneAnswer : {F : Type 0} → (Declared → Given → F → End → List ℕ → Type 0) → Type 0
HasOneAnswer Answers = (s : Declared) → HasOneAnswerTo s Answers
