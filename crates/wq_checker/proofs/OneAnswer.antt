-- A certificate has at most one answer, and a list of steps at most one end.
use Rattle.std.proofs.Common.{◌≡◌, ℕ, zero, suc, ◌-◌, ◌<◌, inl, inr, List, [], ◌∷◌, take, Option, Some, Result, Ok, Err}
use Rattle.std.proofs.Common.{refl, sym, ap, subst, ◌∙◌, arith}
use Rattle.std.specs.Prelude.{slice_get}
use Rattle.std.proofs.lemmas.Bool.{cases_order}
use Rattle.std.proofs.lemmas.Option.{slice_get_within}
use Rattle.wq_items.specs.declared.target.Target.{Target}
use Rattle.wq_groups.specs.Declaration.{Declaration, IsDeclaration}
use Rattle.wq_groups.specs.Assignment.{Assignment}
use Rattle.wq_core.specs.declared.step.Step.{Step}
use Rattle.wq_core.specs.Wiring.{Wiring}
use Rattle.wq_core.specs.State.{State, empty_state}
use Rattle.wq_core.specs.Rules.{Lawful, effect}
use Rattle.wq_core.specs.Runs.{after, IsRunFrom, IsRun, end_of}
use Rattle.wq_core.specs.Deadlock.{IsStuck, DeadlocksBy}
use Rattle.wq_core.specs.MustGoOn.{IsStuckFor, DeadlocksFor}
use Rattle.wq_cert.specs.Certificate.{PlanCertificate, CircleCertificate, Certificate, OfPlan, OfCircle}
use Rattle.wq_checker.specs.declared.answer.Yes.{Yes}
use Rattle.wq_checker.specs.declared.answer.Yes.TheVariants as yes
use Rattle.wq_checker.specs.declared.answer.No.{No}
use Rattle.wq_checker.specs.declared.answer.No.TheVariants.{NotFalling, LengthDiffers, ChainBroken, CircleBroken}
use Rattle.wq_checker.specs.declared.answer.No.TheVariants.{RunBroken}
use Rattle.wq_checker.specs.declared.run.RunEnd.{RunEnd}
use Rattle.wq_checker.specs.declared.run.RunEnd.TheVariants.{NotLawful, Deadlock, Stuck, Free}
use Rattle.wq_checker.specs.Chains.{AllJoin, IsFirstBreak, before_in_chain, before_in_circle}
use Rattle.wq_checker.specs.Falling.{Falls, AllFall, IsFirstNotFalling}
use Rattle.wq_checker.specs.Answers.{LacksGroup, IsChainBrokenAt, IsPlanAsked, IsAsked, AnswersPlan, AnswersCircle}
use Rattle.wq_checker.specs.Answers.{AnswersCertificate}
use Rattle.wq_checker.specs.RunEnds.{IsFirstUnlawful, EndsAs, EndsFor}
use Rattle.wq_checker.proofs.FallingLemmas.{Declares-ItemWaits}
use Rattle.wq_checker.proofs.FlushPlaces.{same_flush}
use Rattle.wq_checker.proofs.RunEndLemmas.{IsRun-unlawful}

module _ (d : Declaration) where
  -- ---- arcs that join

  joined-unbroken : (before : ℕ → Option (ℕ × ℕ)) (arcs : List (ℕ × ℕ)) (at : ℕ) → AllJoin d before arcs
      → ¬ IsFirstBreak d before arcs at
  joined-unbroken before arcs at joined break = break.breaks (joined (at - 1) break.arc break.stands)

  one_break : (before : ℕ → Option (ℕ × ℕ)) (arcs : List (ℕ × ℕ)) (m n : ℕ) → IsFirstBreak d before arcs m
      → IsFirstBreak d before arcs n → m ≡ n
  one_break before arcs m n one other = elim (cases_order m n) [
    | inl same ↦ same
    | inr (inl less) ↦ absurd (one.breaks (other.first (m - 1) one.arc (omega (arith, less, one.from_one)) one.stands))
    | inr (inr less) ↦ absurd
        (other.breaks (one.first (n - 1) other.arc (omega (arith, less, other.from_one)) other.stands))
  ]

  -- ---- flushes that fall

  fall-none_stays : (a : Assignment) (i j : ℕ) → AllFall d a → ¬ IsFirstNotFalling d a i j
  fall-none_stays a i j falls first = first.stays
      (falls i j (Declares-ItemWaits d i j first.target first.declares first.of_target))

  not_before : (a : Assignment) (i j k l : ℕ) → (one : IsFirstNotFalling d a i j) (other : IsFirstNotFalling d a k l)
      → ¬ one.target.place < other.target.place
  not_before a i j k l one other less =
      one.stays (subst (λ (n : ℕ). Falls d a i n) one.of_target (other.first i one.target one.declares less))

  module _ (is : IsDeclaration d) where
    one_flush : (a : Assignment) (i j k l : ℕ) → IsFirstNotFalling d a i j → IsFirstNotFalling d a k l
        → (i ≡ k) × (j ≡ l)
    one_flush a i j k l one other = elim (cases_order one.target.place other.target.place) [
      | inl same ↦ (
          let flush = same_flush d is i k one.target other.target one.declares other.declares same in
          (flush.0, sym one.of_target ∙ ap (λ (t : Target). t.item) flush.1 ∙ other.of_target)
          )
      | inr (inl less) ↦ absurd (not_before a i j k l one other less)
      | inr (inr less) ↦ absurd (not_before a k l i j other one less)
    ]

    -- ---- plans

    module _ (c : PlanCertificate) (asked : IsPlanAsked d c) where
      -- if there is no group, there is no arc
      lacking-unbroken : (at : ℕ) → LacksGroup d c → ¬ IsFirstBreak d (before_in_chain c.arcs) c.arcs at
      lacking-unbroken at lacks break = absurd
          (omega (arith, asked.count, lacks.0, slice_get_within c.arcs (at - 1) break.arc break.stands))

      one_broken : (m n : ℕ) → IsChainBrokenAt d c m → IsChainBrokenAt d c n → m ≡ n
      one_broken m n (inl one) (inl other) = one.1 ∙ sym other.1
      one_broken m n (inl one) (inr other) = absurd (lacking-unbroken n one.0 other)
      one_broken m n (inr one) (inl other) = absurd (lacking-unbroken m other.0 one)
      one_broken m n (inr one) (inr other) = one_break (before_in_chain c.arcs) c.arcs m n one other

      good-unbroken : (at : ℕ) → (¬ LacksGroup d c) → AllJoin d (before_in_chain c.arcs) c.arcs
          → ¬ IsChainBrokenAt d c at
      good-unbroken at has joined (inl lacks) = has lacks.0
      good-unbroken at has joined (inr break) = joined-unbroken (before_in_chain c.arcs) c.arcs at joined break

      one_for_plan : (r s : Result Yes No) → AnswersPlan d c r → AnswersPlan d c s → r ≡ s
      one_for_plan (Ok (yes.Plan m)) (Ok (yes.Plan n)) one other = ap (λ (x : ℕ). Ok (yes.Plan x)) (one.1 ∙ sym other.1)
      one_for_plan (Ok (yes.Plan m)) (Ok (yes.Circle n)) one other = absurd other
      one_for_plan (Ok (yes.Plan m)) (Err (NotFalling i j)) one other =
          absurd (fall-none_stays c.assignment i j one.0.falls other)
      one_for_plan (Ok (yes.Plan m)) (Err LengthDiffers) one other = absurd (other.1 one.0.long)
      one_for_plan (Ok (yes.Plan m)) (Err (ChainBroken at)) one other =
          absurd (good-unbroken at one.0.has_group one.0.joined other.2)
      one_for_plan (Ok (yes.Plan m)) (Err (CircleBroken at)) one other = absurd other
      one_for_plan (Ok (yes.Plan m)) (Err RunBroken) one other = absurd other
      one_for_plan (Ok (yes.Circle n)) s one other = absurd one
      one_for_plan (Err (NotFalling i j)) (Ok (yes.Plan n)) one other =
          absurd (fall-none_stays c.assignment i j other.0.falls one)
      one_for_plan (Err (NotFalling i j)) (Ok (yes.Circle n)) one other = absurd other
      one_for_plan (Err (NotFalling i j)) (Err (NotFalling k l)) one other =
          let same = one_flush c.assignment i j k l one other in
          ap (λ (x : ℕ). Err (NotFalling x j)) same.0 ∙ ap (λ (x : ℕ). Err (NotFalling k x)) same.1
      one_for_plan (Err (NotFalling i j)) (Err LengthDiffers) one other =
          absurd (fall-none_stays c.assignment i j other.0 one)
      one_for_plan (Err (NotFalling i j)) (Err (ChainBroken at)) one other =
          absurd (fall-none_stays c.assignment i j other.0 one)
      one_for_plan (Err (NotFalling i j)) (Err (CircleBroken at)) one other = absurd other
      one_for_plan (Err (NotFalling i j)) (Err RunBroken) one other = absurd other
      one_for_plan (Err LengthDiffers) (Ok (yes.Plan n)) one other = absurd (one.1 other.0.long)
      one_for_plan (Err LengthDiffers) (Ok (yes.Circle n)) one other = absurd other
      one_for_plan (Err LengthDiffers) (Err (NotFalling i j)) one other =
          absurd (fall-none_stays c.assignment i j one.0 other)
      one_for_plan (Err LengthDiffers) (Err LengthDiffers) one other = refl
      one_for_plan (Err LengthDiffers) (Err (ChainBroken at)) one other = absurd (one.1 other.1)
      one_for_plan (Err LengthDiffers) (Err (CircleBroken at)) one other = absurd other
      one_for_plan (Err LengthDiffers) (Err RunBroken) one other = absurd other
      one_for_plan (Err (ChainBroken m)) (Ok (yes.Plan n)) one other =
          absurd (good-unbroken m other.0.has_group other.0.joined one.2)
      one_for_plan (Err (ChainBroken m)) (Ok (yes.Circle n)) one other = absurd other
      one_for_plan (Err (ChainBroken m)) (Err (NotFalling i j)) one other =
          absurd (fall-none_stays c.assignment i j one.0 other)
      one_for_plan (Err (ChainBroken m)) (Err LengthDiffers) one other = absurd (other.1 one.1)
      one_for_plan (Err (ChainBroken m)) (Err (ChainBroken n)) one other =
          ap (λ (x : ℕ). Err (ChainBroken x)) (one_broken m n one.2 other.2)
      one_for_plan (Err (ChainBroken m)) (Err (CircleBroken at)) one other = absurd other
      one_for_plan (Err (ChainBroken m)) (Err RunBroken) one other = absurd other
      one_for_plan (Err (CircleBroken at)) s one other = absurd one
      one_for_plan (Err RunBroken) s one other = absurd one

    -- ---- circles

    one_for_circle : (c : CircleCertificate) (r s : Result Yes No) → AnswersCircle d c r → AnswersCircle d c s → r ≡ s
    one_for_circle c (Ok (yes.Plan m)) s one other = absurd one
    one_for_circle c (Ok (yes.Circle m)) (Ok (yes.Plan n)) one other = absurd other
    one_for_circle c (Ok (yes.Circle m)) (Ok (yes.Circle n)) one other =
        ap (λ (x : ℕ). Ok (yes.Circle x)) (one.1 ∙ sym other.1)
    one_for_circle c (Ok (yes.Circle m)) (Err (NotFalling i j)) one other = absurd other
    one_for_circle c (Ok (yes.Circle m)) (Err LengthDiffers) one other = absurd other
    one_for_circle c (Ok (yes.Circle m)) (Err (ChainBroken at)) one other = absurd other
    one_for_circle c (Ok (yes.Circle m)) (Err (CircleBroken at)) one other =
        absurd (joined-unbroken (before_in_circle c.arcs) c.arcs at one.0.joined other)
    one_for_circle c (Ok (yes.Circle m)) (Err RunBroken) one other = absurd (other.1 one.0.deadlocks)
    one_for_circle c (Err (NotFalling i j)) s one other = absurd one
    one_for_circle c (Err LengthDiffers) s one other = absurd one
    one_for_circle c (Err (ChainBroken at)) s one other = absurd one
    one_for_circle c (Err (CircleBroken m)) (Ok (yes.Plan n)) one other = absurd other
    one_for_circle c (Err (CircleBroken m)) (Ok (yes.Circle n)) one other =
        absurd (joined-unbroken (before_in_circle c.arcs) c.arcs m other.0.joined one)
    one_for_circle c (Err (CircleBroken m)) (Err (NotFalling i j)) one other = absurd other
    one_for_circle c (Err (CircleBroken m)) (Err LengthDiffers) one other = absurd other
    one_for_circle c (Err (CircleBroken m)) (Err (ChainBroken at)) one other = absurd other
    one_for_circle c (Err (CircleBroken m)) (Err (CircleBroken n)) one other =
        ap (λ (x : ℕ). Err (CircleBroken x)) (one_break (before_in_circle c.arcs) c.arcs m n one other)
    one_for_circle c (Err (CircleBroken m)) (Err RunBroken) one other =
        absurd (joined-unbroken (before_in_circle c.arcs) c.arcs m other.0 one)
    one_for_circle c (Err RunBroken) (Ok (yes.Plan n)) one other = absurd other
    one_for_circle c (Err RunBroken) (Ok (yes.Circle n)) one other = absurd (one.1 other.0.deadlocks)
    one_for_circle c (Err RunBroken) (Err (NotFalling i j)) one other = absurd other
    one_for_circle c (Err RunBroken) (Err LengthDiffers) one other = absurd other
    one_for_circle c (Err RunBroken) (Err (ChainBroken at)) one other = absurd other
    one_for_circle c (Err RunBroken) (Err (CircleBroken m)) one other =
        absurd (joined-unbroken (before_in_circle c.arcs) c.arcs m one.0 other)
    one_for_circle c (Err RunBroken) (Err RunBroken) one other = refl

    pub one_answer : (c : Certificate) (r s : Result Yes No) → IsAsked d c → AnswersCertificate d c r
        → AnswersCertificate d c s → r ≡ s
    one_answer (OfPlan c) r s asked one other = one_for_plan c asked r s one other
    one_answer (OfCircle c) r s asked one other = one_for_circle c r s one other

-- ---- ends

-- the steps of a prefix of a list
IsRunFrom-front : (w : Wiring) (s : State) (steps : List Step) (m k : ℕ) (step : Step) → IsRunFrom w s (take m steps)
    → k < m → slice_get steps k ≡ Some step → Lawful w (after w s (take k steps)) step
IsRunFrom-front w s [] m k step run less stands = absurd cc
IsRunFrom-front w s (first ∷ steps) zero k step run less stands = absurd (omega arith)
IsRunFrom-front w s (first ∷ steps) (suc m) zero step run less stands = let same : first ≡ step =
    cc in subst (Lawful w s) same run.0
IsRunFrom-front w s (first ∷ steps) (suc m) (suc k) step run less stands =
    IsRunFrom-front w (effect w s first) steps m k step run.1 (omega arith) stands

module _ (w : Wiring) (steps : List Step) where
  not_earlier : (m n : ℕ) → IsFirstUnlawful w steps m → IsFirstUnlawful w steps n → ¬ m < n
  not_earlier m n one other less = one.unlawful
      (IsRunFrom-front w (empty_state w) steps (n - 1) (m - 1) one.step other.before (omega (arith, less, one.from_one))
      one.stands)

  one_unlawful : (m n : ℕ) → IsFirstUnlawful w steps m → IsFirstUnlawful w steps n → m ≡ n
  one_unlawful m n one other = elim (cases_order m n) [
    | inl same ↦ same
    | inr (inl less) ↦ absurd (not_earlier m n one other less)
    | inr (inr less) ↦ absurd (not_earlier n m other one less)
  ]

  -- how the steps end, where it is said what a deadlock is and what is stuck
  abbrev IsEnd : Type 0 → Type 0 → RunEnd → Type 0
  IsEnd Dead IsStuckThere (NotLawful n) = IsFirstUnlawful w steps n
  IsEnd Dead IsStuckThere Deadlock = Dead
  IsEnd Dead IsStuckThere Stuck = IsRun w steps × IsStuckThere × (¬ Dead)
  IsEnd Dead IsStuckThere Free = IsRun w steps × (¬ IsStuckThere)

  module _ (Dead IsStuckThere : Type 0) (run : Dead → IsRun w steps) (is_stuck : Dead → IsStuckThere) where
    one_of_two : (r s : RunEnd) → IsEnd Dead IsStuckThere r → IsEnd Dead IsStuckThere s → r ≡ s
    one_of_two (NotLawful m) (NotLawful n) one other = ap NotLawful (one_unlawful m n one other)
    one_of_two (NotLawful m) Deadlock one other = absurd (IsRun-unlawful w steps m one (run other))
    one_of_two (NotLawful m) Stuck one other = absurd (IsRun-unlawful w steps m one other.0)
    one_of_two (NotLawful m) Free one other = absurd (IsRun-unlawful w steps m one other.0)
    one_of_two Deadlock (NotLawful n) one other = absurd (IsRun-unlawful w steps n other (run one))
    one_of_two Deadlock Deadlock one other = refl
    one_of_two Deadlock Stuck one other = absurd (other.2 one)
    one_of_two Deadlock Free one other = absurd (other.1 (is_stuck one))
    one_of_two Stuck (NotLawful n) one other = absurd (IsRun-unlawful w steps n other one.0)
    one_of_two Stuck Deadlock one other = absurd (one.2 other)
    one_of_two Stuck Stuck one other = refl
    one_of_two Stuck Free one other = absurd (other.1 one.1)
    one_of_two Free (NotLawful n) one other = absurd (IsRun-unlawful w steps n other one.0)
    one_of_two Free Deadlock one other = absurd (one.1 (is_stuck other))
    one_of_two Free Stuck one other = absurd (one.1 other.1)
    one_of_two Free Free one other = refl

  pub one_end : (r s : RunEnd) → EndsAs w steps r → EndsAs w steps s → r ≡ s
  one_end r s one other = one_of_two (DeadlocksBy w steps) (IsStuck w (end_of w steps)) (λ h. h.run) (λ h. h.stuck)
      r s (ends-as r one) (ends-as s other)
    where
      ends-as : (end : RunEnd) → EndsAs w steps end
          → IsEnd (DeadlocksBy w steps) (IsStuck w (end_of w steps)) end
      ends-as (NotLawful n) is = is
      ends-as Deadlock is = is
      ends-as Stuck is = is
      ends-as Free is = is

  -- the same for items that must go on
  pub one_end_for : (named : List ℕ) (r s : RunEnd) → EndsFor w named steps r → EndsFor w named steps s → r ≡ s
  one_end_for named r s one other =
      one_of_two (DeadlocksFor w named steps) (IsStuckFor w named (end_of w steps)) (λ h. h.run) (λ h. h.stuck) r s
      (ends-for r one) (ends-for s other)
    where
      ends-for : (end : RunEnd) → EndsFor w named steps end
          → IsEnd (DeadlocksFor w named steps) (IsStuckFor w named (end_of w steps)) end
      ends-for (NotLawful n) is = is
      ends-for Deadlock is = is
      ends-for Stuck is = is
      ends-for Free is = is
