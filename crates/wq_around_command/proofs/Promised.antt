-- What `plan` and `check` promise around fixed workqueues follows from what they answer.
use Rattle.std.proofs.Common.{◌≡◌, ℕ, ◌<◌, ◌⊎◌, List, [], ◌∷◌, inl, inr, map, Result, Ok, Err, refl, ap, ◌∙◌}
use Rattle.std.specs.Prelude.{MatchResult, codes, decimal}
use Rattle.std.proofs.lemmas.Result.{MatchResult-weaker}
use Rattle.wq_text.specs.LineText.{line_text}
use Rattle.wq_text.specs.Refusal.{Refusal}
use Rattle.wq_groups.specs.DeclaredGroups.{declared_waits, Declared}
use Rattle.wq_fixed.specs.Fixed.{Fixed, fixed_lanes}
use Rattle.wq_cert.specs.declared.fault.CertError.{CertError}
use Rattle.wq_cert.specs.AroundReading.{AroundCertificate, OfCircleAround, OfNoRescuer, OfPlanAround, around_of_text}
use Rattle.wq_cert.specs.FixedReading.{fixed_of_text}
use Rattle.wq_cert.specs.Texts.{cert_refusal}
use Rattle.wq_checker.specs.declared.answer.Yes.TheVariants.{Circle, Plan}
use Rattle.wq_checker.specs.declared.around.NoAround.{NoAround}
use Rattle.wq_checker.specs.declared.around.YesAround.{YesAround}
use Rattle.wq_checker.specs.declared.around.YesAround.TheVariants.{NoRescuer, Plain}
use Rattle.wq_commands.specs.declared.end.End.{End}
use Rattle.wq_commands.specs.declared.end.End.TheVariants.{Good, Bad, Refused}
use Rattle.wq_commands.specs.Answer.{AnswersDeclared, PrintsRefusal, ends_of}
use Rattle.wq_commands.specs.Checking.{ChecksDeclared}
use Rattle.wq_commands.specs.Declaration.{declaration}
use Rattle.wq_commands.specs.Promise.{KeepsPromise}
use Rattle.wq_commands.specs.YesIsTrue.{YesIsTrue}
use Rattle.wq_commands.proofs.FoundLemmas.{of_declared}
use Rattle.wq_commands.proofs.PromiseLemmas.{KeepsPromise-answers, YesIsTrue-checks}
use Rattle.wq_around_command.specs.Checking.{AnswersCheckAround, ChecksAround, ChecksDeclaredAround, ChecksFixed}
use Rattle.wq_around_command.specs.Checking.{IsAnsweredAround, PrintsCheckAround}
use Rattle.wq_around_command.specs.Planning.{AnswersFixed, Plans, PlansDeclared, PrintsFixed}
use Rattle.wq_around_command.specs.Promise.{KeepsAround, KeepsFixed, YesHolds, YesIsTrueAround}

-- ---- `plan`

keeps_fixed : (s : Declared) (f : Fixed) (end : End) (out : List ℕ) → PrintsFixed s f end out → KeepsFixed s f end out
keeps_fixed s f Good out h = record {
  workqueues = h.workqueues;
  order = h.order;
  arcs = map ends_of h.chain;
  text = h.text;
  least = h.planned.least;
}
keeps_fixed s f Bad out (inl h) = h.circled.deadlock
keeps_fixed s f Bad out (inr h) = h.held.deadlock
keeps_fixed s f Refused out h = absurd h

-- what is promised around fixed workqueues, or where there is none
abbrev Keeps : List ℕ → End → List ℕ → Declared → Fixed → Type 0
Keeps declared end out s f =
    ((fixed_lanes f ≡ 0) × KeepsPromise declared end out) ⊎ ((0 < fixed_lanes f) × KeepsFixed s f end out)

pub KeepsAround-plans : (declared text : List ℕ) (end : End) (out : List ℕ) → Plans declared text end out
    → KeepsAround declared text end out
KeepsAround-plans declared text end out = by_declared (declaration declared) refl
  where
    kept : (s : Declared) → declaration declared ≡ Ok s → (f : Fixed) → AnswersFixed s f end out
        → Keeps declared end out s f
    kept s is f (inl (none, answers)) =
        inl (
          none,
          KeepsPromise-answers declared end out
              (of_declared (λ s. AnswersDeclared s end out) (λ r. PrintsRefusal r end out) (declaration declared) s is
              answers),
        )
    kept s is f (inr (some, prints)) = inr (some, keeps_fixed s f end out prints)

    by_declared : (r : Result Declared Refusal) → declaration declared ≡ r
        → MatchResult r (λ s. PlansDeclared s text end out) (λ r. PrintsRefusal r end out)
        → MatchResult r (λ s. MatchResult (fixed_of_text s.table.names s.partition text) (Keeps declared end out s)
        (λ _. end ≡ Refused)) (λ _. end ≡ Refused)
    by_declared (Ok s) is h =
        MatchResult-weaker (fixed_of_text s.table.names s.partition text) h (kept s is) (λ fault refused. refused.0)
    by_declared (Err r) is h = h.0

-- ---- a yes of `check`

yes_holds : (s : Declared) (f : Fixed) (c : AroundCertificate) (answer : Result YesAround NoAround) (out : List ℕ)
    → IsAnsweredAround (declared_waits s) f c answer → PrintsCheckAround s.table.names answer Good out
    → YesHolds s f c out
yes_holds s f (OfPlanAround c) (Ok (Plain (Plan number))) out are (good, text) = (
  (are.least c number refl refl).1,
  text ∙ ap (λ (n : ℕ). line_text (codes "yes" ∷ decimal n ∷ [])) are.answered.1,
)
yes_holds s f (OfPlanAround c) (Ok (Plain (Circle n))) out are prints = absurd are.answered
yes_holds s f (OfPlanAround c) (Ok NoRescuer) out are prints = absurd are.answered
yes_holds s f (OfCircleAround c) (Ok (Plain (Circle n))) out are (good, text) = (
  are.circle n refl,
  text ∙ ap (λ (m : ℕ). line_text (codes "yes" ∷ codes "circle" ∷ decimal m ∷ [])) are.answered.2,
)
yes_holds s f (OfCircleAround c) (Ok (Plain (Plan number))) out are prints = absurd are.answered
yes_holds s f (OfCircleAround c) (Ok NoRescuer) out are prints = absurd are.answered
yes_holds s f (OfNoRescuer c) (Ok NoRescuer) out are (good, text) = (are.none refl, text)
yes_holds s f (OfNoRescuer c) (Ok (Plain own)) out are prints = absurd are.answered
yes_holds s f c (Err reason) out are (bad, text) = absurd (let never : Good ≡ Bad = bad in cc)

-- what is promised of a yes around fixed workqueues, or where there is none
abbrev Holds : List ℕ → List ℕ → List ℕ → Declared → Fixed → Type 0
Holds declared text out s f =
    ((fixed_lanes f ≡ 0) × YesIsTrue declared text out)
    ⊎ ((0 < fixed_lanes f) × (c : AroundCertificate)
    × (around_of_text s.table.names s.partition f text ≡ Ok c) × YesHolds s f c out)

pub YesIsTrueAround-checks : (declared text fixed out : List ℕ) → ChecksAround declared text fixed Good out
    → YesIsTrueAround declared text fixed out
YesIsTrueAround-checks declared text fixed out = by_declared (declaration declared) refl
  where
    holds : (s : Declared) → declaration declared ≡ Ok s → (f : Fixed) → ChecksFixed s f text Good out
        → Holds declared text out s f
    holds s is f (inl (none, checks)) =
        inl (
          none,
          YesIsTrue-checks declared text out
              (of_declared (λ s. ChecksDeclared s text Good out) (λ r. PrintsRefusal r Good out) (declaration declared)
              s is
              checks),
        )
    holds s is f (inr (some, checks)) =
        let (c, read, true_of) = by_claim (around_of_text s.table.names s.partition f text) refl checks in
        inr (some, c, read, true_of)
      where
        by_claim : (r : Result AroundCertificate CertError) → around_of_text s.table.names s.partition f text ≡ r
            → MatchResult r (λ c. AnswersCheckAround s f c Good out)
            (λ fault. PrintsRefusal (cert_refusal fault) Good out)
            → (c : AroundCertificate) × (around_of_text s.table.names s.partition f text ≡ Ok c) × YesHolds s f c out
        by_claim (Ok c) read (answer, are, prints) = (c, read, yes_holds s f c answer out are prints)
        by_claim (Err fault) read h = absurd (let never : Good ≡ Refused = h.0 in cc)

    behind : (s : Declared) → declaration declared ≡ Ok s → (r : Result Fixed CertError)
        → fixed_of_text s.table.names s.partition fixed ≡ r
        → MatchResult r (λ f. ChecksFixed s f text Good out) (λ fault. PrintsRefusal (cert_refusal fault) Good out)
        → YesIsTrueAround declared text fixed out
    behind s is (Ok f) read h = (s, is, f, read, holds s is f h)
    behind s is (Err fault) read h = absurd (let never : Good ≡ Refused = h.0 in cc)

    by_declared : (r : Result Declared Refusal) → declaration declared ≡ r
        → MatchResult r (λ s. ChecksDeclaredAround s text fixed Good out) (λ r. PrintsRefusal r Good out)
        → YesIsTrueAround declared text fixed out
    by_declared (Ok s) is h = behind s is (fixed_of_text s.table.names s.partition fixed) refl h
    by_declared (Err r) is h = absurd (let never : Good ≡ Refused = h.0 in cc)
