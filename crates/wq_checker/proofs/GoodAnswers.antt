-- What good certificates imply: safe assignments, lanes that wait in a circle, and runs that deadlock.
use Rattle.std.proofs.Common.{◌≡◌, ℕ, ◌<◌, List, length, Result, Ok, refl, sym, subst, ◌∙◌, arith}
use Rattle.wq_items.specs.Chain.{Circle}
use Rattle.wq_groups.specs.Declaration.{Declaration, IsDeclaration}
use Rattle.wq_groups.specs.Assignment.{Assignment, IsAssignment}
use Rattle.wq_groups.proofs.Declarations.{waiting-item, awaited-item}
use Rattle.wq_groups.proofs.Lanes.{item_lanes-at}
use Rattle.wq_core.specs.Wiring.{LaneWaits, wiring}
use Rattle.wq_core.specs.Deadlock.{IsSafe, Deadlocks, IsLeast}
use Rattle.wq_core.proofs.CircleKnots.{Deadlocks-circle}
use Rattle.wq_core.proofs.LaneCircles.{Circle-lanes, Circle-few_lanes}
use Rattle.wq_core.proofs.Safety.{IsSafe-falls}
use Rattle.wq_core.proofs.Wirings.{IsWiring-wiring}
use Rattle.wq_cert.specs.Certificate.{PlanCertificate, CircleCertificate, Certificate, OfPlan, OfCircle}
use Rattle.wq_checker.specs.declared.answer.Yes.{Yes}
use Rattle.wq_checker.specs.declared.answer.Yes.TheVariants as yes
use Rattle.wq_checker.specs.declared.answer.No.{No}
use Rattle.wq_checker.specs.Chains.{AllJoin, before_in_circle, IsChainAlong, IsCircleAlong}
use Rattle.wq_checker.specs.Falling.{AllFall}
use Rattle.wq_checker.specs.Answers.{IsGoodPlan, IsPlanAsked, IsCircleAsked, IsAsked, AnswersPlan, AnswersCircle, AnswersCertificate}
use Rattle.wq_checker.specs.Implications.{YesIsSafe, FewerWaitInCircle, YesIsLeast, EachWaitsInCircle, EachDeadlocks}
use Rattle.wq_checker.proofs.GroupChains.{chain_of_groups, circle_of_groups}

module _ (d : Declaration) (is : IsDeclaration d) where
  -- ---- plans

  -- if each flush falls, no run ends stuck
  pub IsSafe-fall : (a : Assignment) → AllFall d a → IsSafe (wiring d a)
  IsSafe-fall a falls =
      IsSafe-falls (wiring d a) (λ l. l) refl (λ i j waits.
      let one = item_lanes-at a d.group_of i (waiting-item d is i j waits) in
      let other = item_lanes-at a d.group_of j (awaited-item d is i j waits) in
      omega (arith, one, other, falls i j waits)
      )

  -- the chain has as many groups as there are lanes
  pub IsChainAlong-good : (c : PlanCertificate) → IsPlanAsked d c → IsGoodPlan d c → (groups : List ℕ) × IsChainAlong d c.arcs groups × (length groups ≡ c.assignment.lanes)
  IsChainAlong-good c asked good =
      let chain = chain_of_groups d is c.length c.arcs good.joined asked.count (λ one none. good.has_group (one, none)) in
      (chain.0, chain.1, chain.2 ∙ good.long)

  -- so it is longer than the number of lanes of an assignment to fewer
  pub Circle-fewer : (c : PlanCertificate) → IsPlanAsked d c → IsGoodPlan d c → (b : Assignment) → IsAssignment d.groups b → b.lanes < c.assignment.lanes → Circle (LaneWaits (wiring d b))
  Circle-fewer c asked good b assignment fewer =
      let chain = IsChainAlong-good c asked good in
      Circle-few_lanes d b chain.0 assignment chain.1.chain chain.1.within (omega (arith, fewer, chain.2))

  pub IsLeast-good : (c : PlanCertificate) → IsPlanAsked d c → IsGoodPlan d c → IsLeast d c.assignment
  IsLeast-good c asked good = record {
    assignment = asked.assignment;
    safe = IsSafe-fall c.assignment good.falls;
    fewer = λ b other fewer. Deadlocks-circle (wiring d b) (IsWiring-wiring d b is other) refl (Circle-fewer c asked good b other fewer);
  }

  -- ---- circles

  pub IsCircleAlong-good : (c : CircleCertificate) → IsCircleAsked d c → AllJoin d (before_in_circle c.arcs) c.arcs → IsCircleAlong d c.arcs
  IsCircleAlong-good c asked joined = circle_of_groups d is c.arcs asked.some joined

  pub Circle-any : (c : CircleCertificate) → IsCircleAsked d c → AllJoin d (before_in_circle c.arcs) c.arcs → (b : Assignment) → Circle (LaneWaits (wiring d b))
  Circle-any c asked joined b = Circle-lanes d b (IsCircleAlong-good c asked joined).circle

  pub Deadlocks-any : (c : CircleCertificate) → IsCircleAsked d c → AllJoin d (before_in_circle c.arcs) c.arcs → (b : Assignment) → IsAssignment d.groups b → Deadlocks (wiring d b)
  Deadlocks-any c asked joined b assignment = Deadlocks-circle (wiring d b) (IsWiring-wiring d b is assignment) refl (Circle-any c asked joined b)

-- ---- answers

module _ (d : Declaration) (is : IsDeclaration d) where
  pub YesIsSafe-answer : (c : Certificate) (answer : Result Yes No) → AnswersCertificate d c answer → YesIsSafe d c answer
  YesIsSafe-answer c answer answers plan number same says =
      let good = subst (λ (x : Certificate). AnswersCertificate d x (Ok (yes.Plan number))) same (subst (AnswersCertificate d c) says answers) in
      (sym good.1, IsSafe-fall d is plan.assignment good.0.falls)

  pub FewerWaitInCircle-answer : (c : Certificate) (answer : Result Yes No) → IsAsked d c → AnswersCertificate d c answer → FewerWaitInCircle d answer
  FewerWaitInCircle-answer (OfPlan plan) answer asked answers number b says assignment fewer =
      let good = subst (AnswersPlan d plan) says answers in
      Circle-fewer d is plan asked good.0 b assignment (omega (arith, fewer, good.1))
  FewerWaitInCircle-answer (OfCircle circle) answer asked answers number b says assignment fewer = absurd (subst (AnswersCircle d circle) says answers)

  pub YesIsLeast-answer : (c : Certificate) (answer : Result Yes No) → IsAsked d c → AnswersCertificate d c answer → YesIsLeast d c answer
  YesIsLeast-answer c answer asked answers plan number same says =
      let good = subst (λ (x : Certificate). AnswersCertificate d x (Ok (yes.Plan number))) same (subst (AnswersCertificate d c) says answers) in
      (sym good.1, IsLeast-good d is plan (subst (IsAsked d) same asked) good.0)

  pub EachWaitsInCircle-answer : (c : Certificate) (answer : Result Yes No) → IsAsked d c → AnswersCertificate d c answer → EachWaitsInCircle d answer
  EachWaitsInCircle-answer (OfPlan plan) answer asked answers n b says assignment = absurd (subst (AnswersPlan d plan) says answers)
  EachWaitsInCircle-answer (OfCircle circle) answer asked answers n b says assignment =
      let good = subst (AnswersCircle d circle) says answers in
      Circle-any d is circle asked good.0.joined b

  pub EachDeadlocks-answer : (c : Certificate) (answer : Result Yes No) → IsAsked d c → AnswersCertificate d c answer → EachDeadlocks d answer
  EachDeadlocks-answer (OfPlan plan) answer asked answers n b says assignment = absurd (subst (AnswersPlan d plan) says answers)
  EachDeadlocks-answer (OfCircle circle) answer asked answers n b says assignment =
      let good = subst (AnswersCircle d circle) says answers in
      Deadlocks-any d is circle asked good.0.joined b assignment
