use Rattle.std.proofs.Common.{◌≡◌, ℕ, ◌+◌, inl, inr, Option, refl, sym, ap, subst, ◌∙◌, arith}
use Rattle.wq_groups.specs.Assignment.{Assignment}
use Rattle.wq_groups.specs.DeclaredGroups.{declared_waits}
use Rattle.wq_core.specs.Workqueues.{Workqueues, wiring_of}
use Rattle.wq_fixed.specs.Fixed.{fixed_lanes, free_groups}
use Rattle.wq_cert.specs.AroundReading.{AroundPlan}
use Rattle.wq_checker.specs.Chains.{before_in_chain}
use Rattle.wq_checker.specs.Around.{AllFallAround, IsFirstBreakIn, AllJoinIn}
use Rattle.wq_checker.specs.Around.{LacksFree, new_along, new_planned}
use Rattle.wq_checker.specs.SearchingAround.{FindsNotFalling}
use Rattle.wq_checker.proofs.checking_around.check_plan.Goals as goal
use Rattle.wq_checker.proofs.checking_around.check_plan.Goals.{else-chain-eq1-via-then-chain-eq1+else-lanes-first_new}
use Rattle.wq_checker.proofs.checking_around.check_plan.Goals.{else-chain-eq1-via-else-chain-eq1}

pub returns-in-Some : goal.returns-in-Some
returns-in-Some g c =
    let d = declared_waits c.args.start.now.declared in
    let f = c.args.fixed.now in
    let plan : AroundPlan =
    record {
      assignment = c.args.assignment.now;
      order = c.args.order.now;
      length = c.args.chain;
      arcs =
          c.args.arcs.now;
    } in
    subst (λ (o : Option (ℕ × ℕ)). FindsNotFalling d f plan o) c.in-Some.is
    (c.in_ok-stays.ensures c.args.chain c.args.arcs.now)

pub returns-then-along-new : goal.returns-then-along-new
returns-then-along-new g c =
    let d = declared_waits c.args.start.now.declared in
    let f = c.args.fixed.now in
    let plan : AroundPlan =
    record {
      assignment = c.args.assignment.now;
      order = c.args.order.now;
      length = c.args.chain;
      arcs =
          c.args.arcs.now;
    } in
    let falls : AllFallAround d f plan =
    subst (λ (o : Option (ℕ × ℕ)). FindsNotFalling d f plan o) c.in_default.is
    (c.in_ok-stays.ensures c.args.chain c.args.arcs.now) in
    let along : c.new_along-along.result ≡ new_along d f plan.length plan.arcs =
    c.new_along-along.ensures f c.requires.start (sym c.lanes-first_new.ensures.lanes) in
    let new : c.from-new.result ≡ new_planned f plan =
    omega (arith, c.from-new.ensures, c.lanes.ensures.lanes, c.lanes-first_new.ensures.lanes) in
    (falls, (λ same. c.if-along-new.true (along ∙ same ∙ sym new)))

pub returns-then-lanes-first_new : goal.returns-then-lanes-first_new
returns-then-lanes-first_new g c =
    let d = declared_waits c.args.start.now.declared in
    let f = c.args.fixed.now in
    let plan : AroundPlan =
    record {
      assignment = c.args.assignment.now;
      order = c.args.order.now;
      length = c.args.chain;
      arcs =
          c.args.arcs.now;
    } in
    let falls : AllFallAround d f plan =
    subst (λ (o : Option (ℕ × ℕ)). FindsNotFalling d f plan o) c.in_default.is
    (c.in_ok-stays.ensures c.args.chain c.args.arcs.now) in
    let along : c.new_along-along.result ≡ new_along d f plan.length plan.arcs =
    c.new_along-along.ensures f c.requires.start (sym c.lanes-first_new.ensures.lanes) in
    let new : c.from-new.result ≡ new_planned f plan =
    omega (arith, c.from-new.ensures, c.lanes.ensures.lanes, c.lanes-first_new.ensures.lanes) in
    let long : new_along d f plan.length plan.arcs ≡ new_planned f plan = sym along ∙ c.if-along-new.false ∙ new in
    let lanes : c.lanes-lanes.result ≡ fixed_lanes f + free_groups f =
    c.lanes-lanes.ensures.lanes ∙ ap (λ (a : Assignment). a.lanes) c.assignment.ensures
    ∙ ap (λ (ws : Workqueues). ws.assignment.lanes) (c.workqueues.ensures.is ∙ c.requires.start) in
    let none : free_groups f ≡ 0 = omega (arith, lanes, c.if-lanes-first_new.true, c.lanes-first_new.ensures.lanes) in
    let lacks : LacksFree f plan = (c.if-chain-eq1.true, none) in
    (falls, long, inl (lacks, refl))

pub returns-in-Some-first_break : goal.returns-in-Some-first_break
returns-in-Some-first_break g c =
    let d = declared_waits c.args.start.now.declared in
    let f = c.args.fixed.now in
    let plan : AroundPlan =
    record {
      assignment = c.args.assignment.now;
      order = c.args.order.now;
      length = c.args.chain;
      arcs =
          c.args.arcs.now;
    } in
    let falls : AllFallAround d f plan =
    subst (λ (o : Option (ℕ × ℕ)). FindsNotFalling d f plan o) c.in_default.is
    (c.in_ok-stays.ensures c.args.chain c.args.arcs.now) in
    let along : c.new_along-along.result ≡ new_along d f plan.length plan.arcs =
    c.new_along-along.ensures f c.requires.start (sym c.lanes-first_new.ensures.lanes) in
    let new : c.from-new.result ≡ new_planned f plan =
    omega (arith, c.from-new.ensures, c.lanes.ensures.lanes, c.lanes-first_new.ensures.lanes) in
    let long : new_along d f plan.length plan.arcs ≡ new_planned f plan = sym along ∙ c.if-along-new.false ∙ new in (
      falls,
      long,
      inr (subst (λ (ws : Workqueues). IsFirstBreakIn (wiring_of d ws) (before_in_chain plan.arcs) plan.arcs
          c.in-Some-first_break.at) c.requires.start c.in-Some-first_break.ensures.some),
    )

pub returns-in-None : goal.returns-in-None
returns-in-None g c =
    let d = declared_waits c.args.start.now.declared in
    let f = c.args.fixed.now in
    let plan : AroundPlan =
    record {
      assignment = c.args.assignment.now;
      order = c.args.order.now;
      length = c.args.chain;
      arcs =
          c.args.arcs.now;
    } in
    let falls : AllFallAround d f plan =
    subst (λ (o : Option (ℕ × ℕ)). FindsNotFalling d f plan o) c.in_default.is
    (c.in_ok-stays.ensures c.args.chain c.args.arcs.now) in
    let along : c.new_along-along.result ≡ new_along d f plan.length plan.arcs =
    c.new_along-along.ensures f c.requires.start (sym c.lanes-first_new.ensures.lanes) in
    let new : c.from-new.result ≡ new_planned f plan =
    omega (arith, c.from-new.ensures, c.lanes.ensures.lanes, c.lanes-first_new.ensures.lanes) in
    let long : new_along d f plan.length plan.arcs ≡ new_planned f plan = sym along ∙ c.if-along-new.false ∙ new in
    let lanes : c.lanes-lanes.result ≡ fixed_lanes f + free_groups f =
    c.lanes-lanes.ensures.lanes ∙ ap (λ (a : Assignment). a.lanes) c.assignment.ensures
    ∙ ap (λ (ws : Workqueues). ws.assignment.lanes) (c.workqueues.ensures.is ∙ c.requires.start) in
    let has_free : ¬ LacksFree f plan = λ lacks.
    elim c.else-chain-eq1.branch [
      | else-chain-eq1-via-then-chain-eq1+else-lanes-first_new w ↦ w.if-lanes-first_new.false
          (omega (arith, lanes, lacks.1, c.lanes-first_new.ensures.lanes))
      | else-chain-eq1-via-else-chain-eq1 w ↦ w.if-chain-eq1.false lacks.0
    ] in (
      record {
        falls = falls;
        long = long;
        has_free = has_free;
        joined = subst (λ (ws : Workqueues). AllJoinIn (wiring_of d ws) (before_in_chain plan.arcs) plan.arcs)
            c.requires.start c.in-None.ensures.none;
      },
      new,
    )
