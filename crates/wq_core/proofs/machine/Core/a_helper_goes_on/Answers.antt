use Rattle.std.proofs.Common.{◌≡◌, ◌+◌, ℕ, true, false, inl, inr, subst, arith}
use Rattle.std.proofs.lemmas.Bool.{cases_lt, both_ways}
use Rattle.wq_core.specs.Played.{HelperGoesOn}
use Rattle.wq_core.proofs.DeclaredSteps.{HelperGoesOn-exists}
use Rattle.wq_core.proofs.machine.Core.a_helper_goes_on.Goals as goal

pub loop-before-preserved : goal.loop-before-preserved
loop-before-preserved g c = λ h le can.
    let m = c.args.self.now in
    elim (cases_lt h (c.loop-before.before + 1)) [
      | inl before ↦ c.loop-before.invariant h (omega arith) can
      | inr past ↦ (
          let same : h ≡ c.loop-before.before + 1 = omega arith in
          both_ways c.helper_goes_on.result c.if-helper_goes_on.false (c.helper_goes_on.ensures.1 (subst (λ (k : ℕ). HelperGoesOn m.wiring m.state c.args.q k) same can))
          )
    ]

pub returns : goal.returns
returns g c =
    let m = c.args.self.now in (
      (λ h. absurd (let e : false ≡ true = h in cc)),
      (λ found.
          let exists = HelperGoesOn-exists m.wiring m.state c.args.q found.0 found.1 in
          absurd (c.loop-before.invariant found.0 (omega (arith, exists.1, c.helpers_of-count.ensures.helpers, c.loop-before-test.false)) found.1)),
    )
