-- The answer to a declaration, a certificate and workqueues that stay as they are.
use Rattle.std.specs.Prelude.{◌≡◌, ◌⊎◌, ◌<◌, ℕ, List, [], ◌∷◌, Result, Ok, Err, codes, decimal, MatchResult}
use Rattle.wq_text.specs.LineText.{line_text}
use Rattle.wq_groups.specs.Declaration.{Declaration}
use Rattle.wq_groups.specs.DeclaredGroups.{declared_waits, Declared}
use Rattle.wq_fixed.specs.Fixed.{Fixed, fixed_lanes}
use Rattle.wq_cert.specs.AroundReading.{AroundCertificate, around_of_text}
use Rattle.wq_cert.specs.FixedReading.{fixed_of_text}
use Rattle.wq_cert.specs.Texts.{cert_refusal}
use Rattle.wq_checker.specs.declared.answer.No.{No}
use Rattle.wq_checker.specs.declared.answer.Yes.{Yes}
use Rattle.wq_checker.specs.declared.around.NoAround.{NoAround}
use Rattle.wq_checker.specs.declared.around.NoAround.TheVariants as no_around
use Rattle.wq_checker.specs.declared.around.YesAround.{YesAround}
use Rattle.wq_checker.specs.declared.around.YesAround.TheVariants as yes_around
use Rattle.wq_checker.specs.Around.{AnswersAround, CircleIsOfAll, NoneIsOfAll, YesIsLeastAround}
use Rattle.wq_commands.specs.declared.end.End.{End}
use Rattle.wq_commands.specs.declared.end.End.TheVariants.{Good, Bad}
use Rattle.wq_commands.specs.declared.found.Found.{Found}
use Rattle.wq_commands.specs.declared.found.Found.TheVariants.{Read}
use Rattle.wq_commands.specs.declared.found.Which.TheVariants.{Certificate as SecondText, Run as ThirdText}
use Rattle.wq_commands.specs.Answer.{PrintsRefusal}
use Rattle.wq_commands.specs.Checking.{ChecksDeclared, NamesItems, no_words, yes_words}
use Rattle.wq_commands.specs.Commands.{ChecksText}
use Rattle.wq_commands.specs.Declaration.{declaration}
use Rattle.wq_commands.specs.Found.{AnswersIn}
use Rattle.wq_around_command.specs.declared.checking.Checked.{Checked}
use Rattle.wq_around_command.specs.declared.checking.Checked.TheVariants as checked

-- the words of a yes
abbrev pub yes_around_words : YesAround → List (List ℕ)
yes_around_words (yes_around.Plain own) = yes_words own
yes_around_words yes_around.NoRescuer = codes "yes" ∷ codes "norescuer" ∷ []

-- the words of a no
abbrev pub no_around_words : List (List ℕ) → NoAround → List (List ℕ)
no_around_words names (no_around.Plain reason) = no_words names reason
no_around_words names no_around.HasRescuer = codes "no" ∷ decimal 55 ∷ []

-- the items that a no names exist
abbrev pub NamesItemsAround : List (List ℕ) → NoAround → Type 0
NamesItemsAround names (no_around.Plain reason) = NamesItems names reason
NamesItemsAround names no_around.HasRescuer = Unit {0}

-- what is printed of this answer of the checker
abbrev pub PrintsCheckAround : List (List ℕ) → Result YesAround NoAround → End → List ℕ → Type 0
PrintsCheckAround names (Ok y) end out = (end ≡ Good) × (out ≡ line_text (yes_around_words y))
PrintsCheckAround names (Err n) end out = (end ≡ Bad) × (out ≡ line_text (no_around_words names n))

-- this is the checker's answer to a certificate around fixed workqueues, and a yes is true
pub record IsAnsweredAround (d : Declaration) (f : Fixed) (c : AroundCertificate) (answer : Result YesAround NoAround)
    : Type 0 where
  pub answered : AnswersAround d f c answer
  pub least : YesIsLeastAround d f c answer
  pub circle : CircleIsOfAll d f answer
  pub none : NoneIsOfAll d f answer

-- the checker's answer to this certificate around fixed workqueues is found, and printed
abbrev pub FindsCheckAround : Declared → Fixed → AroundCertificate → Found (Result YesAround NoAround) → End → List ℕ
    → Type 0
FindsCheckAround s f c found end out =
    (answer : Result YesAround NoAround) × (found ≡ Read answer) × IsAnsweredAround (declared_waits s) f c answer
    × PrintsCheckAround s.table.names answer end out

-- what `check` finds in this text around fixed workqueues, and answers; where there is none, as without them
abbrev pub ChecksOn : Declared → Fixed → List ℕ → Found Checked → End → List ℕ → Type 0
ChecksOn s f text found end out =
    ((fixed_lanes f ≡ 0)
    × (plain : Found (Result Yes No)) × (found ≡ Read (checked.Plain plain)) × ChecksText s text plain end out)
    ⊎ ((0 < fixed_lanes f)
    × (around : Found (Result YesAround NoAround)) × (found ≡ Read (checked.Around around))
    × AnswersIn SecondText (around_of_text s.table.names s.partition f text) (λ c. FindsCheckAround s f c) around end
    out)

-- `check` of the first of these texts around the fixed workqueues with the second, which is judged first
abbrev pub ChecksTexts : Declared → List ℕ → List ℕ → Found Checked → End → List ℕ → Type 0
ChecksTexts s text fixed =
    AnswersIn ThirdText (fixed_of_text s.table.names s.partition fixed) (λ f. ChecksOn s f text)

-- ---- the answer alone

-- what the checker answers to a certificate around fixed workqueues is printed
abbrev pub AnswersCheckAround : Declared → Fixed → AroundCertificate → End → List ℕ → Type 0
AnswersCheckAround s f c end out =
    (answer : Result YesAround NoAround) × IsAnsweredAround (declared_waits s) f c answer
    × PrintsCheckAround s.table.names answer end out

-- the answer to the text of a certificate around fixed workqueues; where there is none, as without them
abbrev pub ChecksFixed : Declared → Fixed → List ℕ → End → List ℕ → Type 0
ChecksFixed s f text end out =
    ((fixed_lanes f ≡ 0) × ChecksDeclared s text end out)
    ⊎ ((0 < fixed_lanes f) × MatchResult (around_of_text s.table.names s.partition f text)
    (λ c. AnswersCheckAround s f c end out)
    (λ fault. PrintsRefusal (cert_refusal fault) end out))

-- the answer to the texts of a certificate and of fixed workqueues of a declaration: a refusal of the fixed workqueues
-- comes first
abbrev pub ChecksDeclaredAround : Declared → List ℕ → List ℕ → End → List ℕ → Type 0
ChecksDeclaredAround s text fixed end out =
    MatchResult (fixed_of_text s.table.names s.partition fixed)
    (λ f. ChecksFixed s f text end out)
    (λ fault. PrintsRefusal (cert_refusal fault) end out)

-- the answer to the texts of a declaration, of a certificate and of fixed workqueues: a refusal of the declaration
-- comes first
abbrev pub ChecksAround : List ℕ → List ℕ → List ℕ → End → List ℕ → Type 0
ChecksAround declared text fixed end out =
    MatchResult (declaration declared) (λ s. ChecksDeclaredAround s text fixed end out) (λ r. PrintsRefusal r end out)
