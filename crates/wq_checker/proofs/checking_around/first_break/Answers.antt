use Rattle.std.proofs.Common.{◌≡◌, ℕ, ◌+◌, suc, Option, sym, ap, subst, ◌∙◌, arith}
use Rattle.std.proofs.lemmas.Bool.{false≢true}
use Rattle.wq_groups.specs.DeclaredGroups.{declared_waits}
use Rattle.wq_core.specs.Workqueues.{wiring_of}
use Rattle.wq_checker.specs.Chains.{before_from}
use Rattle.wq_checker.specs.Around.{JoinsIn}
use Rattle.wq_checker.proofs.Breaks.{stands-at, IsFirstBreakIn-next, JoinInUpTo-next, AllJoinIn-all}
use Rattle.wq_checker.proofs.GroupChains.{before_from-suc}
use Rattle.wq_checker.proofs.checking_around.first_break.Goals as goal

pub returns-then-not-joins-clause-some : goal.returns-then-not-joins-clause-some
returns-then-not-joins-clause-some g c =
    let w = wiring_of (declared_waits c.args.start.now.declared) c.args.start.now.workqueues in
    let arcs = c.args.arcs.now in
    let before = before_from c.args.first arcs in
    let n = c.loop-arc.arc-index in
    let arc = c.arc-item.result in
    IsFirstBreakIn-next w before arcs c.loop-arc.at n arc c.loop-arc.invariant.counted
    (stands-at w before arcs n arc c.loop-arc-test.true c.arc-item.is)
    (λ joins. false≢true
    (sym c.if-not-joins.true ∙ c.joins.ensures.1
    (subst (λ (o : Option (ℕ × ℕ)). JoinsIn w o arc) (sym c.loop-arc.invariant.behind) joins)))
    c.loop-arc.invariant.joined

pub loop-arc-preserved : goal.loop-arc-preserved
loop-arc-preserved g c =
    let w = wiring_of (declared_waits c.args.start.now.declared) c.args.start.now.workqueues in
    let arcs = c.args.arcs.now in
    let before = before_from c.args.first arcs in
    let n = c.loop-arc.arc-index in
    let arc = c.arc-item.result in
    let stands = stands-at w before arcs n arc c.loop-arc-test.true c.arc-item.is in
    let next : n + 1 ≡ suc n = omega arith in
    record {
      counted = omega (arith, c.loop-arc.invariant.counted);
      behind = sym (ap before next ∙ before_from-suc c.args.first arcs n ∙ stands);
      joined = JoinInUpTo-next w before arcs n arc stands
          (subst (λ (o : Option (ℕ × ℕ)). JoinsIn w o arc) c.loop-arc.invariant.behind
          (c.joins.ensures.0 c.if-not-joins.false)) c.loop-arc.invariant.joined;
    }

pub returns-clause-none : goal.returns-clause-none
returns-clause-none g c =
    let w = wiring_of (declared_waits c.args.start.now.declared) c.args.start.now.workqueues in
    let arcs = c.args.arcs.now in
    AllJoinIn-all w (before_from c.args.first arcs) arcs c.loop-arc.arc-index (omega (arith, c.loop-arc-test.false))
    c.loop-arc.invariant.joined
