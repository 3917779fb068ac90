use Rattle.std.proofs.Common.{◌≡◌, ℕ, true, false, sym, subst, ◌∙◌, arith, below_more}
use Rattle.wq_core.specs.Played.{CanMove}
use Rattle.wq_core.proofs.DeclaredSteps.{CanMove-within}
use Rattle.wq_core.proofs.machine.Core.enabled.Goals as goal

pub returns-then-can_move-clause-some : goal.returns-then-can_move-clause-some
returns-then-can_move-clause-some g c =
    (c.can_move.ensures.0 c.if-can_move.true, λ p below. c.loop-number.invariant p (omega (arith, below, c.new-q.ensures)))

pub loop-number-preserved : goal.loop-number-preserved
loop-number-preserved g c =
    let m = c.args.self.now in
    let here : ¬ CanMove m.wiring m.state c.loop-number.number =
    subst (λ (n : ℕ). ¬ CanMove m.wiring m.state n) c.new-q.ensures (λ can. absurd (let e : false ≡ true = sym c.if-can_move.false ∙ c.can_move.ensures.1 can in cc)) in
    below_more (λ (p : ℕ). ¬ CanMove m.wiring m.state p) c.loop-number.number c.loop-number.invariant here

pub returns-clause-none : goal.returns-clause-none
returns-clause-none g c =
    let m = c.args.self.now in
    λ q can.
    let within = CanMove-within m.wiring m.state q can in
    c.loop-number.invariant q (omega (arith, within, c.lanes-lanes.ensures.machine.state.one_each, c.lanes-lanes.ensures.lanes, c.loop-number-test.false)) can
