-- A declaration and a certificate have one answer.
use Rattle.std.proofs.Common.{◌≡◌, ℕ, List, Result, Ok, Err, refl, sym, subst, ◌∙◌}
use Rattle.wq_cert.specs.Certificate.{Certificate}
use Rattle.wq_text.specs.LineText.{line_text}
use Rattle.wq_cert.specs.Texts.{answer_of, cert_refusal}
use Rattle.wq_checker.specs.declared.answer.Yes.{Yes}
use Rattle.wq_checker.specs.declared.answer.No.{No}
use Rattle.wq_checker.specs.Answers.{IsAsked}
use Rattle.wq_checker.proofs.AnswersDecided.{an_answer}
use Rattle.wq_checker.proofs.OneAnswer.{one_answer}
use Rattle.wq_commands.specs.declared.end.End.{End}
use Rattle.wq_commands.specs.declared.end.End.TheVariants.{Good, Bad}
use Rattle.wq_groups.specs.DeclaredGroups.{declared_waits, Declared}
use Rattle.wq_commands.specs.Answer.{PrintsRefusal}
use Rattle.wq_commands.specs.Checking.{yes_words, no_words, PrintsCheck, AnswersCheck, ChecksDeclared, Checks}
use Rattle.wq_commands.specs.Declaration.{declaration}
use Rattle.wq_commands.proofs.AnswerLemmas.{IsSound, IsSound-declaration, IsDeclaration-sound}
use Rattle.wq_commands.proofs.CheckLemmas.{IsAsked-read}
use Rattle.wq_commands.proofs.Refusals.{MatchResult-unique, MatchResult-exist, PrintsRefusal-unique, PrintsRefusal-exist}

PrintsCheck-unique : (names : List (List ℕ)) (answer : Result Yes No) (end other : End) (out printed : List ℕ) → PrintsCheck names answer end out → PrintsCheck names answer other printed
    → (end ≡ other) × (out ≡ printed)
PrintsCheck-unique names (Ok y) end other out printed one two = (one.0 ∙ sym two.0, one.1 ∙ sym two.1)
PrintsCheck-unique names (Err n) end other out printed one two = (one.0 ∙ sym two.0, one.1 ∙ sym two.1)

PrintsCheck-exist : (names : List (List ℕ)) (answer : Result Yes No) → (end : End) × (out : List ℕ) × PrintsCheck names answer end out
PrintsCheck-exist names (Ok y) = (Good, line_text (yes_words y), (refl, refl))
PrintsCheck-exist names (Err n) = (Bad, line_text (no_words names n), (refl, refl))

module _ (s : Declared) (sound : IsSound s) where
  AnswersCheck-unique : (c : Certificate) (end other : End) (out printed : List ℕ) → IsAsked (declared_waits s) c → AnswersCheck s c end out → AnswersCheck s c other printed
      → (end ≡ other) × (out ≡ printed)
  AnswersCheck-unique c end other out printed asked one two =
      let same : one.0 ≡ two.0 = one_answer (declared_waits s) (IsDeclaration-sound s sound) c one.0 two.0 asked one.1 two.1 in
      PrintsCheck-unique s.table.names two.0 end other out printed (subst (λ (answer : Result Yes No). PrintsCheck s.table.names answer end out) same one.2) two.2

  AnswersCheck-exist : (c : Certificate) → (end : End) × (out : List ℕ) × AnswersCheck s c end out
  AnswersCheck-exist c =
      let answered = an_answer (declared_waits s) (IsDeclaration-sound s sound) c in
      let prints = PrintsCheck-exist s.table.names answered.0 in
      (prints.0, prints.1, (answered.0, answered.1, prints.2))

  ChecksDeclared-unique : (claim : List ℕ) (end other : End) (out printed : List ℕ) → ChecksDeclared s claim end out → ChecksDeclared s claim other printed
      → (end ≡ other) × (out ≡ printed)
  ChecksDeclared-unique claim end other out printed =
      MatchResult-unique (answer_of s.table.names s.partition claim) (AnswersCheck s) (λ fault. PrintsRefusal (cert_refusal fault)) end other out printed
      (λ c read. AnswersCheck-unique c end other out printed (IsAsked-read s claim c sound read)) (λ fault. PrintsRefusal-unique (cert_refusal fault) end other out printed)

  ChecksDeclared-exist : (claim : List ℕ) → (end : End) × (out : List ℕ) × ChecksDeclared s claim end out
  ChecksDeclared-exist claim =
      MatchResult-exist (answer_of s.table.names s.partition claim) (AnswersCheck s) (λ fault. PrintsRefusal (cert_refusal fault)) (λ c read. AnswersCheck-exist c) (λ fault. PrintsRefusal-exist (cert_refusal fault))

pub Checks-unique : (text claim : List ℕ) (end other : End) (out printed : List ℕ) → Checks text claim end out → Checks text claim other printed → (end ≡ other) × (out ≡ printed)
Checks-unique text claim end other out printed =
    MatchResult-unique (declaration text) (λ s. ChecksDeclared s claim) PrintsRefusal end other out printed
    (λ s declared. ChecksDeclared-unique s (IsSound-declaration text s declared) claim end other out printed) (λ r. PrintsRefusal-unique r end other out printed)

pub Checks-exist : (text claim : List ℕ) → (end : End) × (out : List ℕ) × Checks text claim end out
Checks-exist text claim =
    MatchResult-exist (declaration text) (λ s. ChecksDeclared s claim) PrintsRefusal (λ s declared. ChecksDeclared-exist s (IsSound-declaration text s declared) claim) PrintsRefusal-exist
