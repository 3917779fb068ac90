-- What good certificates around fixed workqueues imply.
use Rattle.std.proofs.Common.{◌≡◌, ◌≢◌, ℕ, zero, suc, ◌+◌, ◌<◌, ◌≤◌, Bool, cond, List, [], ◌∷◌, length}
use Rattle.std.proofs.Common.{None, Result, Ok, refl, sym, ap, subst, ◌∙◌, arith}
use Rattle.std.specs.List.{All}
use Rattle.std.proofs.lemmas.Bool.{le-leb}
use Rattle.std.proofs.lemmas.List.Elements.{All-cons, All-nil}
use Rattle.wq_items.specs.Chain.{IsChain}
use Rattle.wq_groups.specs.Declaration.{Declaration, IsDeclaration}
use Rattle.wq_groups.specs.Assignment.{IsAssignment}
use Rattle.wq_groups.proofs.Declarations.{waiting-item, awaited-item}
use Rattle.wq_core.specs.Wiring.{IsWiring, RescuedWaits, wiring}
use Rattle.wq_core.specs.Workqueues.{Workqueues, wiring_of}
use Rattle.wq_core.specs.Deadlock.{IsSafe, Deadlocks}
use Rattle.wq_core.proofs.BareWaits.{Deadlocks-bare}
use Rattle.wq_core.proofs.CircleKnots.{Deadlocks-rescued_circle}
use Rattle.wq_core.proofs.LaneCircles.{Circle-map}
use Rattle.wq_core.proofs.Safety.{IsSafe-rescued}
use Rattle.wq_core.proofs.Wirings.{IsWiring-wiring, IsWiring-with_bare}
use Rattle.wq_fixed.specs.Fixed.{Fixed, IsFixed, Keeps, IsLeastAround, AllDeadlock, fixed_lanes, free_groups, new_among}
use Rattle.wq_fixed.specs.Fixed.{start}
use Rattle.wq_fixed.proofs.ChainsOfStart.{Circle-fewer}
use Rattle.wq_fixed.proofs.Kept.{lane_now, waits_here, rescuer_here}
use Rattle.wq_fixed.proofs.StartKeeps.{IsAssignmentOf-start}
use Rattle.wq_cert.specs.AroundReading.{AroundPlan, AroundCertificate, OfPlanAround}
use Rattle.wq_cert.specs.AroundReading.{OfCircleAround, OfNoRescuer}
use Rattle.wq_cert.specs.Certificate.{CircleCertificate}
use Rattle.wq_checker.specs.declared.answer.Yes.TheVariants as yes
use Rattle.wq_checker.specs.declared.around.YesAround.{YesAround}
use Rattle.wq_checker.specs.declared.around.YesAround.TheVariants as yes_around
use Rattle.wq_checker.specs.declared.around.NoAround.{NoAround}
use Rattle.wq_checker.specs.Answers.{ArcsOfItems}
use Rattle.wq_checker.specs.Chains.{before_in_chain, before_in_circle}
use Rattle.wq_checker.specs.Around.{planned, start_wiring, place_in, AllFallAround, AllJoinAround, LeadsToNone}
use Rattle.wq_checker.specs.Around.{lanes_along, new_along}
use Rattle.wq_checker.specs.Around.{IsGoodPlanAround, IsPlanAroundAsked, IsCircleAroundAsked, IsAroundAsked}
use Rattle.wq_checker.specs.Around.{AnswersPlanAround, AnswersCircleAround, AnswersNoRescuer, AnswersAround}
use Rattle.wq_checker.specs.Around.{YesIsLeastAround, CircleIsOfAll, NoneIsOfAll}
use Rattle.wq_checker.proofs.LaneChains.{IsChain-joined, lanes-within, Circle-joined}

module _ (d : Declaration) (is : IsDeclaration d) (f : Fixed) where
  -- the wiring of workqueues
  IsWiring-on : (ws : Workqueues) → IsAssignment d.groups ws.assignment → IsWiring (wiring_of d ws)
  IsWiring-on ws assignment = IsWiring-with_bare (wiring d ws.assignment) ws.bare
      (IsWiring-wiring d ws.assignment is assignment)

  -- if each flush falls, no run ends stuck
  IsSafe-fall : (c : AroundPlan) → AllFallAround d f c → IsSafe (wiring_of d (planned f c))
  IsSafe-fall c falls = IsSafe-rescued (wiring_of d (planned f c)) (place_in c.order) falls

  module _ (fixed : IsFixed d.groups f) where
    IsWiring-start : IsWiring (start_wiring d f)
    IsWiring-start = IsWiring-on (start f) (IsAssignmentOf-start d.groups f fixed).assignment

    -- workqueues that keep the fixed ones, and have fewer new ones than a chain of the start
    Deadlocks-chain : (lanes : List ℕ) → IsChain (RescuedWaits (start_wiring d f)) lanes
        → All (λ q. q < (start f).assignment.lanes) lanes
        → (ws : Workqueues) → IsAssignment d.groups ws.assignment → Keeps f ws
        → ws.assignment.lanes < fixed_lanes f + new_among f lanes → Deadlocks (wiring_of d ws)
    Deadlocks-chain lanes chain within ws assignment keeps fewer =
        Deadlocks-rescued_circle (wiring_of d ws) (IsWiring-on ws assignment)
        (Circle-fewer d f ws is fixed assignment keeps lanes chain within fewer)

    -- ---- plans

    -- a chain without arcs has one new lane, if there is a free group, or none
    fewer-alone : (n : ℕ) → n ≤ 1 → (n ≡ 1 → free_groups f ≢ 0) → (ws : Workqueues)
        → IsAssignment d.groups ws.assignment → Keeps f ws
        → ws.assignment.lanes < fixed_lanes f + n → Deadlocks (wiring_of d ws)
    fewer-alone zero few some ws assignment keeps fewer = absurd (omega (arith, fewer, keeps.lanes))
    fewer-alone (suc n) few some ws assignment keeps fewer =
        let one : suc n ≡ 1 = omega (arith, few) in
        let new : ℕ = fixed_lanes f in
        let there : new < (start f).assignment.lanes = omega (arith, some one) in
        let count : new_among f (new ∷ []) ≡ 1 = ap (λ (b : Bool). 0 + cond b 1 0) (le-leb new new (omega arith)) in
        Deadlocks-chain (new ∷ []) tt
        (All-cons (λ q. q < (start f).assignment.lanes) new [] there
        (All-nil (λ q. q < (start f).assignment.lanes))) ws assignment keeps (omega (arith, fewer, one, count))

    fewer-good : (c : AroundPlan) → IsPlanAroundAsked d f c → IsGoodPlanAround d f c → (ws : Workqueues)
        → IsAssignment d.groups ws.assignment → Keeps f ws
        → ws.assignment.lanes < c.assignment.lanes → Deadlocks (wiring_of d ws)
    fewer-good c asked good ws assignment keeps fewer = of c.arcs refl
      where
        new : c.assignment.lanes ≡ fixed_lanes f + new_along d f c.length c.arcs
        new = omega (arith, good.long, asked.keeps.lanes)

        of : (arcs : List (ℕ × ℕ)) → c.arcs ≡ arcs → Deadlocks (wiring_of d ws)
        of [] none =
            let count : new_along d f c.length c.arcs ≡ c.length =
            ap (λ (l : List (ℕ × ℕ)). new_along d f c.length l) none in
            let short : c.length ≤ 1 = omega (arith, asked.count, ap length none) in
            fewer-alone c.length short (λ one free. good.has_free (one, free)) ws assignment keeps
            (omega (arith, fewer, new, count))
        of (arc ∷ arcs) some =
            let joined : AllJoinAround d f (before_in_chain (arc ∷ arcs)) (arc ∷ arcs) =
            subst (λ (l : List (ℕ × ℕ)). AllJoinAround d f (before_in_chain l) l) some good.joined in
            let each : ArcsOfItems d (arc ∷ arcs) = subst (ArcsOfItems d) some asked.arcs in
            let count : new_along d f c.length c.arcs ≡ new_among f (lanes_along d f (arc ∷ arcs)) =
            ap (λ (l : List (ℕ × ℕ)). new_along d f c.length l) some in
            Deadlocks-chain (lanes_along d f (arc ∷ arcs))
            (IsChain-joined (start_wiring d f) IsWiring-start None arc arcs joined)
            (lanes-within (start_wiring d f) IsWiring-start arc arcs each) ws assignment keeps
            (omega (arith, fewer, new, count))

    pub IsLeastAround-good : (c : AroundPlan) → IsPlanAroundAsked d f c → IsGoodPlanAround d f c
        → IsLeastAround d f (planned f c)
    IsLeastAround-good c asked good = record {
      assignment = asked.assignment;
      keeps = asked.keeps;
      safe = IsSafe-fall c good.falls;
      fewer = fewer-good c asked good;
    }

    -- ---- circles, and flushes to no rescuer

    pub AllDeadlock-circle : (c : CircleCertificate) → IsCircleAroundAsked d c
        → AllJoinAround d f (before_in_circle c.arcs) c.arcs → AllDeadlock d f
    AllDeadlock-circle c asked joined ws assignment keeps =
        let circle = Circle-joined (start_wiring d f) IsWiring-start c.arcs asked.some joined in
        Deadlocks-rescued_circle (wiring_of d ws) (IsWiring-on ws assignment)
        (Circle-map (RescuedWaits (start_wiring d f)) (RescuedWaits (wiring_of d ws))
        (lane_now d f ws is fixed assignment keeps) (waits_here d f ws is fixed assignment keeps) circle)

    pub AllDeadlock-none : (arc : ℕ × ℕ) → LeadsToNone d f arc → AllDeadlock d f
    AllDeadlock-none arc leads ws assignment keeps =
        let here = rescuer_here d f ws is fixed assignment keeps in
        Deadlocks-bare (wiring_of d ws) arc.0 arc.1 (IsWiring-on ws assignment) leads.declared
        (sym (here arc.0 (waiting-item d is arc.0 arc.1 leads.declared)) ∙ leads.from)
        (λ rescuer. leads.to (here arc.1 (awaited-item d is arc.0 arc.1 leads.declared) ∙ rescuer))

    -- ---- answers

    pub YesIsLeastAround-answer : (c : AroundCertificate) (answer : Result YesAround NoAround) → IsAroundAsked d f c
        → AnswersAround d f c answer → YesIsLeastAround d f c answer
    YesIsLeastAround-answer c answer asked answers plan number same says =
        let good = subst (λ (x : AroundCertificate). AnswersAround d f x (Ok (yes_around.Plain (yes.Plan number)))) same
        (subst (AnswersAround d f c) says answers) in
        let known : IsPlanAroundAsked d f plan = subst (IsAroundAsked d f) same asked in
        (omega (arith, good.1, known.keeps.lanes), IsLeastAround-good plan known good.0)

    pub CircleIsOfAll-answer : (c : AroundCertificate) (answer : Result YesAround NoAround) → IsAroundAsked d f c
        → AnswersAround d f c answer → CircleIsOfAll d f answer
    CircleIsOfAll-answer (OfPlanAround plan) answer asked answers n says =
        absurd (subst (AnswersPlanAround d f plan) says answers)
    CircleIsOfAll-answer (OfCircleAround circle) answer asked answers n says =
        let good = subst (AnswersCircleAround d f circle) says answers in
        AllDeadlock-circle circle asked good.0
    CircleIsOfAll-answer (OfNoRescuer none) answer asked answers n says =
        absurd (subst (AnswersNoRescuer d f none) says answers)

    pub NoneIsOfAll-answer : (c : AroundCertificate) (answer : Result YesAround NoAround) → AnswersAround d f c answer
        → NoneIsOfAll d f answer
    NoneIsOfAll-answer (OfPlanAround plan) answer answers says =
        absurd (subst (AnswersPlanAround d f plan) says answers)
    NoneIsOfAll-answer (OfCircleAround circle) answer answers says =
        absurd (subst (AnswersCircleAround d f circle) says answers)
    NoneIsOfAll-answer (OfNoRescuer none) answer answers says =
        let good = subst (AnswersNoRescuer d f none) says answers in
        AllDeadlock-none none.arc good.0
