-- Two calls of the same command, whose readers have the same texts.
use Rattle.std.proofs.Common.{◌≡◌, ℕ, List, Option, Some, None, Result, Ok, Err, ap, sym, subst, ◌∙◌}
use Rattle.std.specs.Prelude.{IfSome}
use Rattle.wq_text.specs.Refusal.{Refusal}
use Rattle.wq_meter.specs.Input.{IsInput}
use Rattle.wq_meter.specs.Meter.{Meter}
use Rattle.wq_meter.specs.Shell.{AreFrom, Given, GivesIf}
use Rattle.wq_meter.specs.declared.texts.Limits.{Limits}
use Rattle.wq_commands.specs.declared.end.End.{End}
use Rattle.wq_commands.specs.Answer.{PrintsRefusal}
use Rattle.wq_groups.specs.DeclaredGroups.{Declared}
use Rattle.wq_commands.specs.Declaration.{declaration}
use Rattle.wq_commands.specs.Shell.{AnswersTexts, Call, FindsTexts, HasOneAnswerTo, IsTextIf}
use Rattle.wq_commands.proofs.Refusals.{PrintsRefusal-unique}

-- ---- the texts of a call

known_text : (known : Option (List ℕ)) (wanted text : List ℕ) → known ≡ Some wanted → IsInput known text → text ≡ wanted
known_text known wanted text is input = subst (λ (k : Option (List ℕ)). IfSome k (λ bytes. text ≡ bytes)) is input

known_if : {R : Type 0} (remaining : R → Option (List ℕ)) (old new : Meter R) (limit : Option ℕ) (wanted text : List ℕ)
    → IsTextIf limit (remaining old.device) wanted → GivesIf remaining old new limit text → text ≡ wanted
known_if remaining old new None wanted text is gives = gives.1 ∙ sym is
known_if remaining old new (Some limit) wanted text is gives = known_text (remaining old.device) wanted text is
    gives.input

abbrev given : List ℕ → List ℕ → List ℕ → Given
given first second third = record { first = first; second = second; third = third }

same_given : (one other : Given) → one.first ≡ other.first → one.second ≡ other.second → one.third ≡ other.third
    → one ≡ other
same_given one other p q r =
    ap (λ t. given t one.second one.third) p ∙ ap (λ t. given other.first t one.third) q
    ∙ ap (λ t. given other.first other.second t) r

-- readers that are known to have texts gave these
pub known_texts : {D S T W E : Type 0} (first_known : D → Option (List ℕ)) (second_known : S → Option (List ℕ))
    (third_known : T → Option (List ℕ)) (limits : Limits) (call : Call D S T W E) (wanted texts : Given)
    → FindsTexts first_known second_known third_known limits call wanted
    → AreFrom (GivesIf first_known call.first call.first_left (Some limits.first))
    (GivesIf second_known call.second call.second_left limits.second)
    (GivesIf third_known call.third call.third_left limits.third) texts → texts ≡ wanted
known_texts first_known second_known third_known limits call wanted texts finds from =
    same_given texts wanted
    (known_if first_known call.first call.first_left (Some limits.first) wanted.first texts.first finds.0 from.0)
    (known_if second_known call.second call.second_left limits.second wanted.second texts.second finds.1 from.1)
    (known_if third_known call.third call.third_left limits.third wanted.third texts.third finds.2 from.2)

-- ---- their answer

-- a command that has one answer to what is declared has one to the texts
pub one_answer : {F : Type 0} (Answers : Declared → Given → F → End → List ℕ → Type 0) (texts : Given)
    → ((s : Declared) → declaration texts.first ≡ Ok s → HasOneAnswerTo s Answers)
    → (found again : Result F Refusal) (end other : End) (out printed : List ℕ)
    → AnswersTexts Answers texts found end out → AnswersTexts Answers texts again other printed
    → (end ≡ other) × (out ≡ printed)
one_answer Answers texts has (Ok f) (Ok g) end other out printed one two =
    let both : Ok one.0 ≡ Ok two.0 = sym one.1 ∙ two.1 in
    let same : one.0 ≡ two.0 = cc in
    has two.0 two.1 texts f g end other out printed two.1
    (subst (λ (s : Declared). Answers s texts f end out) same one.2) two.2
one_answer Answers texts has (Ok f) (Err r) end other out printed one two =
    absurd (let never : Ok one.0 ≡ Err r = sym one.1 ∙ two.0 in cc)
one_answer Answers texts has (Err r) (Ok g) end other out printed one two =
    absurd (let never : Err r ≡ Ok two.0 = sym one.0 ∙ two.1 in cc)
one_answer Answers texts has (Err r) (Err q) end other out printed one two =
    let both : Err r ≡ Err q = sym one.0 ∙ two.0 in
    let same : r ≡ q = cc in
    PrintsRefusal-unique r end other out printed one.1
    (subst (λ (t : Refusal). PrintsRefusal t other printed) (sym same) two.1)
