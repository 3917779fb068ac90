-- What `plan` prints around fixed workqueues is answered with yes.
use Rattle.std.proofs.Common.{◌≡◌, ℕ, ◌+◌, ◌<◌, ◌≤◌, ◌⊎◌, inl, inr, List, [], ◌∷◌, ◌++◌, length, map, Some, Result, Ok}
use Rattle.std.proofs.Common.{Err, refl, ap, subst, ◌∙◌, arith, length-append}
use Rattle.std.specs.Prelude.{MatchResult, codes, decimal, flat_map}
use Rattle.std.specs.List.{All}
use Rattle.std.proofs.lemmas.Fmt.{length-decimal-le}
use Rattle.wq_text.specs.LineText.{line_text, spaced}
use Rattle.wq_text.specs.Refusal.{Refusal}
use Rattle.wq_groups.specs.Declaration.{Declaration, IsDeclaration}
use Rattle.wq_groups.specs.DeclaredGroups.{declared_waits, Declared, IsSound}
use Rattle.wq_core.specs.declared.step.Step.{Step}
use Rattle.wq_deadlock.specs.Judging.{IsHang}
use Rattle.wq_fixed.specs.Fixed.{Fixed, IsFixed, fixed_lanes, start}
use Rattle.wq_cert.specs.declared.fault.CertError.{CertError}
use Rattle.wq_cert.specs.AroundReading.{AroundCertificate, OfCircleAround, OfNoRescuer, OfPlanAround, around_of_text}
use Rattle.wq_cert.specs.AroundText.{norescuer_line, norescuer_text}
use Rattle.wq_cert.specs.Certificate.{OfCircle, OfPlan}
use Rattle.wq_cert.specs.CircleText.{circle_line, circle_text}
use Rattle.wq_cert.specs.FixedReading.{fixed_of_text}
use Rattle.wq_cert.specs.PlanText.{arc_line, name_of}
use Rattle.wq_cert.specs.Ranges.{IsStepOf}
use Rattle.wq_cert.specs.RunText.{run_lines}
use Rattle.wq_cert.specs.Texts.{cert_refusal, max_certificate}
use Rattle.wq_cert.proofs.TextLength.{length-circle_text}
use Rattle.wq_checker.specs.declared.answer.Yes.TheVariants as yes
use Rattle.wq_checker.specs.Around.{AnswersAround, IsAroundAsked, IsGoodAround}
use Rattle.wq_checker.proofs.GoodAround.{CircleIsOfAll-answer, NoneIsOfAll-answer, YesIsLeastAround-answer}
use Rattle.wq_commands.specs.declared.end.End.{End}
use Rattle.wq_commands.specs.declared.end.End.TheVariants.{Good, Bad, Refused}
use Rattle.wq_commands.specs.Answer.{AnswersDeclared, PrintsRefusal, ends_of}
use Rattle.wq_commands.specs.Checking.{yes_words}
use Rattle.wq_commands.specs.Declaration.{declaration}
use Rattle.wq_commands.specs.PrintedChecked.{ChecksYesDeclared, ChecksYesOf}
use Rattle.wq_commands.proofs.AnswerLemmas.{IsDeclaration-sound, IsSound-declaration}
use Rattle.wq_commands.proofs.CheckLemmas.{MatchResult-ok}
use Rattle.wq_commands.proofs.FoundLemmas.{of_declared}
use Rattle.wq_commands.proofs.NamedSteps.{IsStepOf-hang, length-hang}
use Rattle.wq_commands.proofs.PromiseLemmas.{Checks-answers}
use Rattle.wq_around_command.specs.Checking.{AnswersCheckAround, ChecksAround, ChecksDeclaredAround, ChecksFixed}
use Rattle.wq_around_command.specs.Checking.{IsAnsweredAround, yes_around_words}
use Rattle.wq_around_command.specs.Planning.{AnswersFixed, Plans, PlansDeclared, PrintsCircleAround, PrintsFixed}
use Rattle.wq_around_command.specs.Planning.{PrintsNoRescuer, PrintsPlanAround}
use Rattle.wq_around_command.specs.PrintedChecked.{ChecksYesAround, ChecksYesFixed, ChecksYesPlain, end_around}
use Rattle.wq_around_command.specs.PrintedChecked.{yes_to_around}
use Rattle.wq_around_command.proofs.AskedLemmas.{IsAroundAsked-read}
use Rattle.wq_around_command.proofs.FixedTexts.{IsFixed-read}
use Rattle.wq_around_command.proofs.GoodPrinted.{AllJoinAround-circled, IsGoodPlanAround-planned, LeadsToNone-held}
use Rattle.wq_around_command.proofs.GoodPrinted.{below, few_lanes, known_arcs, none_new, plan, short_chain, short_order}
use Rattle.wq_around_command.proofs.GoodPrinted.{some_arcs}
use Rattle.wq_around_command.proofs.PlannedLemmas.{ArePrintable-circled, assigned-start, joins-held}
use Rattle.wq_around_command.proofs.PrintedAround.{around_of_text-circle, around_of_text-norescuer, around_of_text-plan}

-- a good certificate is answered with its yes
good_answered : (d : Declaration) (f : Fixed) (c : AroundCertificate) → IsGoodAround d f c
    → AnswersAround d f c (Ok (yes_to_around f c))
good_answered d f (OfPlanAround c) good = (good, refl)
good_answered d f (OfCircleAround c) good = (good.0, good.1, refl)
good_answered d f (OfNoRescuer c) good = good

-- ---- how long the text of a flush to no rescuer is

length-two_words : (word number : List ℕ) → length (line_text (word ∷ number ∷ [])) ≡ length word + length number + 2
length-two_words word number =
    omega (
      arith,
      length-append word (flat_map spaced (number ∷ []) ++ (10 ∷ [])),
      length-append (flat_map spaced (number ∷ [])) (10 ∷ []),
      length-append number [],
    )

length-first_word : (word : List ℕ) (words : List (List ℕ)) → length word + 1 ≤ length (line_text (word ∷ words))
length-first_word word words =
    omega (
      arith,
      length-append word (flat_map spaced words ++ (10 ∷ [])),
      length-append (flat_map spaced words) (10 ∷ []),
    )

shorter_by : (first other flush run : List ℕ) → length first ≤ length other + length flush
    → length (first ++ (flush ++ run)) ≤ length (other ++ (flush ++ (flush ++ run)))
shorter_by first other flush run few =
    omega (
      arith,
      few,
      length-append first (flush ++ run),
      length-append flush run,
      length-append other (flush ++ (flush ++ run)),
      length-append flush (flush ++ run),
    )

-- the text of a circle of two such arcs is longer
shorter : (names : List (List ℕ)) (arc : ℕ × ℕ) (steps : List Step)
    → length (norescuer_text names arc steps) ≤ length (circle_text names (arc ∷ arc ∷ []) (Some steps))
shorter names arc steps =
    let name : List ℕ = name_of names arc.0 in
    let target : List ℕ = name_of names arc.1 in
    let first : length (line_text norescuer_line) ≤ 12 = norescuer (decimal 1)
    (length-decimal-le 1 1 (omega arith) (omega arith) (omega arith)) in
    let other : 8 ≤ length (line_text (circle_line (arc ∷ arc ∷ []))) = circle (decimal 2) in
    let flush : 4 ≤ length (line_text (arc_line names arc)) =
    length-first_word (codes "arc") (name ∷ target ∷ []) in
    shorter_by (line_text norescuer_line) (line_text (circle_line (arc ∷ arc ∷ []))) (line_text (arc_line names arc))
    (flat_map line_text (run_lines names steps)) (fits first other flush)
  where
    norescuer : (number : List ℕ) → length number ≤ 1 → length (line_text (codes "norescuer" ∷ number ∷ [])) ≤ 12
    norescuer number few = omega (arith, few, length-two_words (codes "norescuer") number)

    circle : (number : List ℕ) → 8 ≤ length (line_text (codes "circle" ∷ number ∷ []))
    circle number = omega (arith, length-two_words (codes "circle") number)

    fits : {a b c : ℕ} → a ≤ 12 → 8 ≤ b → 4 ≤ c → a ≤ b + c
    fits most least more = omega (arith, most, least, more)

module _ (declared fixed out : List ℕ) (s : Declared) (f : Fixed) (declares : declaration declared ≡ Ok s)
    (fixes : fixed_of_text s.table.names s.partition fixed ≡ Ok f) where
  abbrev d : Declaration
  d = declared_waits s

  sound : IsSound s
  sound = IsSound-declaration declared s declares

  is : IsDeclaration d
  is = IsDeclaration-sound s sound

  kept : IsFixed s.partition.groups f
  kept = IsFixed-read s.table.names s.partition fixed f fixes

  -- what is answered to the texts is answered by `check`
  checks : (end : End) (printed : List ℕ) → ChecksFixed s f out end printed
      → ChecksAround declared out fixed end printed
  checks end printed answer =
      of_declared (λ t. ChecksDeclaredAround t out fixed end printed) (λ r. PrintsRefusal r end printed)
      (declaration declared) s declares
      (MatchResult-ok (fixed_of_text s.table.names s.partition fixed) f (λ g. ChecksFixed s g out end printed)
      (λ fault. PrintsRefusal (cert_refusal fault) end printed) fixes answer)

  -- ---- around fixed workqueues

  module _ (some : 0 < fixed_lanes f) where
    -- a good certificate that is read
    checks_yes : (end : End) (c : AroundCertificate) → around_of_text s.table.names s.partition f out ≡ Ok c
        → end ≡ end_around c → IsGoodAround d f c → ChecksYesFixed declared fixed s f end out
    checks_yes end c read ends good =
        let answered : AnswersAround d f c (Ok (yes_to_around f c)) = good_answered d f c good in
        let asked : IsAroundAsked d f c = IsAroundAsked-read s sound f kept out c read in
        let answer : IsAnsweredAround d f c (Ok (yes_to_around f c)) = record {
          answered = answered;
          least = YesIsLeastAround-answer d is f kept c (Ok (yes_to_around f c)) asked answered;
          circle = CircleIsOfAll-answer d is f kept c (Ok (yes_to_around f c)) asked answered;
          none = NoneIsOfAll-answer d is f kept c (Ok (yes_to_around f c)) answered;
        } in
        let printed : List ℕ = line_text (yes_around_words (yes_to_around f c)) in
        record {
          certificate = c;
          read = read;
          ended = ends;
          checked = checks Good printed
              (inr (
                some,
                MatchResult-ok (around_of_text s.table.names s.partition f out) c
                    (λ c. AnswersCheckAround s f c Good printed)
                    (λ fault. PrintsRefusal (cert_refusal fault) Good printed) read
                    (Ok (yes_to_around f c), answer, (refl, refl)),
              ));
        }

    -- ---- the three texts

    plan_checked : PrintsPlanAround s f out → ChecksYesFixed declared fixed s f Good out
    plan_checked h =
        let ws = h.workqueues in
        let planned = h.planned in
        let certificate : AroundCertificate = OfPlanAround (plan s sound f kept ws h.order h.chain planned) in
        let read : around_of_text s.table.names s.partition f out ≡ Ok certificate =
        ap (around_of_text s.table.names s.partition f) h.text
        ∙ around_of_text-plan s.table s.partition f ws h.order (map ends_of h.chain) sound.table sound.partition
        sound.one_group_each kept planned.least.assignment planned.least.keeps
        (few_lanes s sound f kept ws h.order h.chain planned)
        (below s sound f kept ws h.order h.chain planned)
        (short_order s sound f kept ws h.order h.chain planned)
        (known_arcs s sound f kept ws h.order h.chain planned)
        (short_chain s sound f kept ws h.order h.chain planned)
        (λ none. none_new s sound f kept ws h.order h.chain planned (omega (arith, none))) in
        checks_yes Good certificate read refl (IsGoodPlanAround-planned s sound f kept ws h.order h.chain planned)

    module _ (steps : List Step) (hang : IsHang d (start f) steps) where
      each : All (IsStepOf (length s.table.names)) steps
      each = IsStepOf-hang s sound (start f) (assigned-start s sound f kept) steps hang.deadlocks

      few : length steps ≤ 65536
      few = omega (arith, length-hang s sound (start f) (assigned-start s sound f kept) steps hang.deadlocks)

    circle_checked : PrintsCircleAround s f out → ChecksYesFixed declared fixed s f Bad out
    circle_checked h =
        let arcs : List (ℕ × ℕ) = map ends_of h.circle in
        let prints = ArePrintable-circled s sound f kept h.circle arcs h.circled refl in
        let known = each h.steps h.hang in
        let certificate : AroundCertificate = OfCircleAround (record { arcs = arcs; steps = Some h.steps }) in
        let read : around_of_text s.table.names s.partition f out ≡ Ok certificate =
        ap (around_of_text s.table.names s.partition f) h.text
        ∙ around_of_text-circle s.table s.partition f sound.table arcs (Some h.steps)
        (some_arcs s sound f kept h.circle h.circled) prints.few prints.items known
        (length-circle_text s.table.names sound.table.named arcs (Some h.steps) prints.few known (few h.steps h.hang))
        in
        checks_yes Bad certificate read refl
        (AllJoinAround-circled s sound f kept h.circle h.circled, h.hang.deadlocks)

    norescuer_checked : PrintsNoRescuer s f out → ChecksYesFixed declared fixed s f Bad out
    norescuer_checked h =
        let arc : ℕ × ℕ = ends_of h.arc in
        let known = each h.steps h.hang in
        let certificate : AroundCertificate = OfNoRescuer (record { arc = arc; steps = Some h.steps }) in
        let short : length (norescuer_text s.table.names arc h.steps) ≤ max_certificate =
        omega (
          arith,
          shorter s.table.names arc h.steps,
          length-circle_text s.table.names sound.table.named (arc ∷ arc ∷ []) (Some h.steps) (omega arith) known
              (few h.steps h.hang),
        ) in
        let read : around_of_text s.table.names s.partition f out ≡ Ok certificate =
        ap (around_of_text s.table.names s.partition f) h.text
        ∙ around_of_text-norescuer s.table s.partition f sound.table arc h.steps
        (joins-held s sound f kept h.arc h.held) known short in
        checks_yes Bad certificate read refl (LeadsToNone-held s sound f kept h.arc h.held, h.hang.deadlocks)

    fixed_checked : (end : End) → PrintsFixed s f end out → ChecksYesFixed declared fixed s f end out
    fixed_checked Good h = plan_checked h
    fixed_checked Bad (inl h) = circle_checked h
    fixed_checked Bad (inr h) = norescuer_checked h
    fixed_checked Refused h = absurd h

  -- ---- where there is no fixed workqueue

  plain_checked : fixed_lanes f ≡ 0 → (end : End) → ChecksYesDeclared s out end
      → ChecksYesPlain declared fixed s end out
  plain_checked none Good h = record {
    certificate = OfPlan h.plan;
    read = h.read;
    ended = refl;
    checked = checks Good (line_text (yes_words (yes.Plan h.plan.assignment.lanes))) (inl (none, h.checked));
  }
  plain_checked none Bad h = record {
    certificate = OfCircle h.circle;
    read = h.read;
    ended = refl;
    checked = checks Good (line_text (yes_words (yes.Circle (length h.circle.arcs)))) (inl (none, h.checked));
  }
  plain_checked none Refused h = absurd h

  answered : (end : End) → AnswersFixed s f end out → ((fixed_lanes f ≡ 0) × ChecksYesPlain declared fixed s end out)
      ⊎ ((0 < fixed_lanes f) × ChecksYesFixed declared fixed s f end out)
  answered end (inl (none, answers)) =
      inl (
        none,
        plain_checked none end
            (subst (λ (r : Result Declared Refusal). ChecksYesOf r out end) declares
            (Checks-answers declared out end
            (of_declared (λ s. AnswersDeclared s end out) (λ r. PrintsRefusal r end out) (declaration declared) s
            declares answers))),
      )
  answered end (inr (some, prints)) = inr (some, fixed_checked some end prints)

-- the yes that `check` answers to what is printed
pub ChecksYesAround-plans : (declared fixed out : List ℕ) (end : End) → Plans declared fixed end out
    → ChecksYesAround declared fixed out end
ChecksYesAround-plans declared fixed out end = by_declared (declaration declared) refl
  where
    by_fixed : (s : Declared) → declaration declared ≡ Ok s → (r : Result Fixed CertError)
        → fixed_of_text s.table.names s.partition fixed ≡ r
        → MatchResult r (λ f. AnswersFixed s f end out) (λ fault. PrintsRefusal (cert_refusal fault) end out)
        → MatchResult r (λ f. ((fixed_lanes f ≡ 0) × ChecksYesPlain declared fixed s end out)
        ⊎ ((0 < fixed_lanes f) × ChecksYesFixed declared fixed s f end out)) (λ _. end ≡ Refused)
    by_fixed s declares (Ok f) fixes h = answered declared fixed out s f declares fixes end h
    by_fixed s declares (Err fault) fixes h = h.0

    by_declared : (r : Result Declared Refusal) → declaration declared ≡ r
        → MatchResult r (λ s. PlansDeclared s fixed end out) (λ r. PrintsRefusal r end out)
        → MatchResult r (λ s. MatchResult (fixed_of_text s.table.names s.partition fixed)
        (λ f. ((fixed_lanes f ≡ 0) × ChecksYesPlain declared fixed s end out)
        ⊎ ((0 < fixed_lanes f) × ChecksYesFixed declared fixed s f end out)) (λ _. end ≡ Refused)) (λ _. end ≡ Refused)
    by_declared (Ok s) declares h =
        by_fixed s declares (fixed_of_text s.table.names s.partition fixed) refl h
    by_declared (Err r) declares h = h.0
