-- Around fixed workqueues, a yes is answered exactly to a good certificate.
use Rattle.std.proofs.Common.{ℕ, ◌-◌, inl, inr, List, Option, Result, Ok, Err, refl}
use Rattle.std.specs.Prelude.{◌↔◌, IsOk}
use Rattle.std.proofs.lemmas.Bool.{false≢true}
use Rattle.wq_groups.specs.Declaration.{Declaration}
use Rattle.wq_core.specs.Wiring.{Wiring}
use Rattle.wq_fixed.specs.Fixed.{Fixed}
use Rattle.wq_cert.specs.AroundReading.{AroundPlan, NoRescuerCertificate, AroundCertificate, OfPlanAround}
use Rattle.wq_cert.specs.AroundReading.{OfCircleAround, OfNoRescuer}
use Rattle.wq_cert.specs.Certificate.{CircleCertificate}
use Rattle.wq_checker.specs.declared.answer.Yes.TheVariants as yes
use Rattle.wq_checker.specs.declared.answer.No.TheVariants.{NotFalling, LengthDiffers, ChainBroken, CircleBroken}
use Rattle.wq_checker.specs.declared.answer.No.TheVariants.{RunBroken}
use Rattle.wq_checker.specs.declared.around.YesAround.{YesAround}
use Rattle.wq_checker.specs.declared.around.YesAround.TheVariants as yes_around
use Rattle.wq_checker.specs.declared.around.NoAround.{NoAround}
use Rattle.wq_checker.specs.declared.around.NoAround.TheVariants as no_around
use Rattle.wq_checker.specs.Chains.{before_in_chain, before_in_circle}
use Rattle.wq_checker.specs.Around.{start_wiring, AllFallAround, IsFirstNotFallingAround, AllJoinIn, IsFirstBreakIn}
use Rattle.wq_checker.specs.Around.{IsBrokenAroundAt, IsGoodPlanAround, IsGoodAround}
use Rattle.wq_checker.specs.Around.{AnswersPlanAround, AnswersCircleAround, AnswersNoRescuer, AnswersAround}
use Rattle.wq_checker.proofs.FallingLemmas.{Declares-ItemWaits}

-- what isn't good has no yes
refused : {P : Type 0} (why : NoAround) → (¬ P) → IsOk {T = YesAround} (Err why) ↔ P
refused why not_good = ((λ said. absurd (false≢true said)), (λ good. absurd (not_good good)))

joined-unbroken : (w : Wiring) (before : ℕ → Option (ℕ × ℕ)) (arcs : List (ℕ × ℕ)) (at : ℕ) → AllJoinIn w before arcs
    → ¬ IsFirstBreakIn w before arcs at
joined-unbroken w before arcs at joined break = break.breaks (joined (at - 1) break.arc break.stands)

module _ (d : Declaration) (f : Fixed) where
  falls-none_stays : (c : AroundPlan) (i j : ℕ) → AllFallAround d f c → ¬ IsFirstNotFallingAround d f c i j
  falls-none_stays c i j falls first =
      first.stays (falls i j (Declares-ItemWaits d i j first.target first.declares first.of_target))

  good-unbroken : (c : AroundPlan) (at : ℕ) → IsBrokenAroundAt d f c at → ¬ IsGoodPlanAround d f c
  good-unbroken c at (inl lacks) good = good.has_free lacks.0
  good-unbroken c at (inr break) good =
      joined-unbroken (start_wiring d f) (before_in_chain c.arcs) c.arcs at good.joined break

  yes-plan : (c : AroundPlan) (r : Result YesAround NoAround) → AnswersPlanAround d f c r
      → IsOk r ↔ IsGoodPlanAround d f c
  yes-plan c (Ok (yes_around.Plain (yes.Plan n))) answers = ((λ said. answers.0), (λ good. refl))
  yes-plan c (Ok (yes_around.Plain (yes.Circle n))) answers = absurd answers
  yes-plan c (Ok yes_around.NoRescuer) answers = absurd answers
  yes-plan c (Err (no_around.Plain (NotFalling i j))) answers =
      refused (no_around.Plain (NotFalling i j)) (λ good. falls-none_stays c i j good.falls answers)
  yes-plan c (Err (no_around.Plain LengthDiffers)) answers =
      refused (no_around.Plain LengthDiffers) (λ good. answers.1 good.long)
  yes-plan c (Err (no_around.Plain (ChainBroken at))) answers =
      refused (no_around.Plain (ChainBroken at)) (good-unbroken c at answers.2)
  yes-plan c (Err (no_around.Plain (CircleBroken at))) answers = absurd answers
  yes-plan c (Err (no_around.Plain RunBroken)) answers = absurd answers
  yes-plan c (Err no_around.HasRescuer) answers = absurd answers

  yes-circle : (c : CircleCertificate) (r : Result YesAround NoAround) → AnswersCircleAround d f c r
      → IsOk r ↔ IsGoodAround d f (OfCircleAround c)
  yes-circle c (Ok (yes_around.Plain (yes.Plan n))) answers = absurd answers
  yes-circle c (Ok (yes_around.Plain (yes.Circle n))) answers = ((λ said. (answers.0, answers.1)), (λ good. refl))
  yes-circle c (Ok yes_around.NoRescuer) answers = absurd answers
  yes-circle c (Err (no_around.Plain (NotFalling i j))) answers = absurd answers
  yes-circle c (Err (no_around.Plain LengthDiffers)) answers = absurd answers
  yes-circle c (Err (no_around.Plain (ChainBroken at))) answers = absurd answers
  yes-circle c (Err (no_around.Plain (CircleBroken at))) answers =
      refused (no_around.Plain (CircleBroken at))
      (λ good. joined-unbroken (start_wiring d f) (before_in_circle c.arcs) c.arcs at good.0 answers)
  yes-circle c (Err (no_around.Plain RunBroken)) answers =
      refused (no_around.Plain RunBroken) (λ good. answers.1 good.1)
  yes-circle c (Err no_around.HasRescuer) answers = absurd answers

  yes-none : (c : NoRescuerCertificate) (r : Result YesAround NoAround) → AnswersNoRescuer d f c r
      → IsOk r ↔ IsGoodAround d f (OfNoRescuer c)
  yes-none c (Ok (yes_around.Plain y)) answers = absurd answers
  yes-none c (Ok yes_around.NoRescuer) answers = ((λ said. answers), (λ good. refl))
  yes-none c (Err (no_around.Plain (NotFalling i j))) answers = absurd answers
  yes-none c (Err (no_around.Plain LengthDiffers)) answers = absurd answers
  yes-none c (Err (no_around.Plain (ChainBroken at))) answers = absurd answers
  yes-none c (Err (no_around.Plain (CircleBroken at))) answers = absurd answers
  yes-none c (Err (no_around.Plain RunBroken)) answers = refused (no_around.Plain RunBroken) (λ good. answers.1 good.1)
  yes-none c (Err no_around.HasRescuer) answers = refused no_around.HasRescuer (λ good. answers good.0)

  pub yes-good : (c : AroundCertificate) (r : Result YesAround NoAround) → AnswersAround d f c r
      → IsOk r ↔ IsGoodAround d f c
  yes-good (OfPlanAround c) r answers = yes-plan c r answers
  yes-good (OfCircleAround c) r answers = yes-circle c r answers
  yes-good (OfNoRescuer c) r answers = yes-none c r answers
