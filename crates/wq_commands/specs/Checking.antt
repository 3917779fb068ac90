-- The answer to a declaration and a certificate: whether the certificate shows what it says.
use Rattle.std.specs.Prelude.{◌≡◌, ◌<◌, ℕ, List, [], ◌∷◌, length, codes, decimal, Result, Ok, Err, MatchResult}
use Rattle.wq_text.specs.LineText.{line_text}
use Rattle.wq_cert.specs.PlanText.{name_of}
use Rattle.wq_cert.specs.Certificate.{Certificate}
use Rattle.wq_cert.specs.Texts.{answer_of, cert_refusal}
use Rattle.wq_checker.specs.declared.answer.Yes.{Yes}
use Rattle.wq_checker.specs.declared.answer.Yes.TheVariants as yes
use Rattle.wq_checker.specs.declared.answer.No.{No}
use Rattle.wq_checker.specs.declared.answer.No.TheVariants.{NotFalling, ChainBroken, CircleBroken}
use Rattle.wq_checker.specs.Answers.{AnswersCertificate}
use Rattle.wq_checker.specs.Codes.{no_code}
use Rattle.wq_commands.specs.declared.end.End.{End}
use Rattle.wq_commands.specs.declared.end.End.TheVariants.{Good, Bad}
use Rattle.wq_groups.specs.DeclaredGroups.{declared_waits, Declared}
use Rattle.wq_commands.specs.Answer.{PrintsRefusal}
use Rattle.wq_commands.specs.Declaration.{declaration}

-- the words of a yes: `yes K` or `yes circle N`
abbrev pub yes_words : Yes → List (List ℕ)
yes_words (yes.Plan number) = codes "yes" ∷ decimal number ∷ []
yes_words (yes.Circle n) = codes "yes" ∷ codes "circle" ∷ decimal n ∷ []

-- what a no is about: an item and its target, a place, or nothing
abbrev pub no_details : List (List ℕ) → No → List (List ℕ)
no_details names (NotFalling item target) = name_of names item ∷ name_of names target ∷ []
no_details names (ChainBroken at) = decimal at ∷ []
no_details names (CircleBroken at) = decimal at ∷ []
no_details names _ = []

-- the words of a no: `no 50 ITEM TARGET`, `no 51 AT`, `no 52`, `no 53 AT` or `no 54`
abbrev pub no_words : List (List ℕ) → No → List (List ℕ)
no_words names reason = codes "no" ∷ decimal (no_code reason) ∷ no_details names reason

-- the items that a no names exist
abbrev pub NamesItems : List (List ℕ) → No → Type 0
NamesItems names (NotFalling item target) = (item < length names) × (target < length names)
NamesItems names _ = Unit {0}

-- the answer that the checker gives is printed: a yes is good, a no is bad
abbrev pub PrintsCheck : List (List ℕ) → Result Yes No → End → List ℕ → Type 0
PrintsCheck names (Ok y) end out = (end ≡ Good) × (out ≡ line_text (yes_words y))
PrintsCheck names (Err n) end out = (end ≡ Bad) × (out ≡ line_text (no_words names n))

-- what the checker answers to a certificate is printed
abbrev pub AnswersCheck : Declared → Certificate → End → List ℕ → Type 0
AnswersCheck s c end out =
    (answer : Result Yes No) × AnswersCertificate (declared_waits s) c answer × PrintsCheck s.table.names answer end out

-- the answer to the text of a certificate of a declaration
abbrev pub ChecksDeclared : Declared → List ℕ → End → List ℕ → Type 0
ChecksDeclared s text end out =
    MatchResult (answer_of s.table.names s.partition text)
    (λ c. AnswersCheck s c end out)
    (λ fault. PrintsRefusal (cert_refusal fault) end out)

-- the answer to a declaration text and the text of a certificate: a refusal of the declaration comes first
abbrev pub Checks : List ℕ → List ℕ → End → List ℕ → Type 0
Checks declared text end out =
    MatchResult (declaration declared) (λ s. ChecksDeclared s text end out) (λ r. PrintsRefusal r end out)
