use Rattle.std.proofs.Common.{◌≡◌, ◌<◌, ◌↔◌, None, true, false, sym, ◌∙◌, subst, refl}
use Rattle.std.specs.Prelude.{IsTrue}
use Rattle.wq_core.specs.declared.entry.Waiting.{Waiting}
use Rattle.wq_core.specs.Wiring.{items}
use Rattle.wq_core.specs.State.{lane_at, run_by}
use Rattle.wq_core.specs.Rules.{IsHeldBack}
use Rattle.wq_core.proofs.LawfulSteps.{waiting-target}
use Rattle.wq_core.proofs.DeclaredSteps.{HelperGoesOn-idle, HelperGoesOn-waiting, HelperGoesOn-awake}
use Rattle.wq_core.proofs.machine.Core.helper_goes_on.Goals as goal

pub returns-in_default : goal.returns-in_default
returns-in_default g c =
    let m = c.args.self.now in
    let idle : run_by (lane_at m.state c.args.helper.lane) c.args.helper.number ≡ None = sym
    c.running_in.ensures.running ∙ c.in_default.is in (
      (λ h. absurd (let e : false ≡ true = h in cc)),
      (λ can. absurd (HelperGoesOn-idle m.wiring m.state c.args.helper.lane c.args.helper.number idle can)),
    )

pub returns-in_default-waiting : goal.returns-in_default-waiting
returns-in_default-waiting g c =
    let m = c.args.self.now in
    let machine = c.in-Some.ensures.machine in (
      (λ h. HelperGoesOn-awake m.wiring m.state c.args.helper.lane c.args.helper.number machine.state c.requires
          c.in-Some.running (sym c.in-Some.ensures.running) c.in_default-waiting.is),
      (λ can. refl),
    )

pub is_held_back-requires : goal.is_held_back-requires
is_held_back-requires g c =
    let m = c.args.self.now in
    let machine = c.in-Some.ensures.machine in
    let below = waiting-target m.wiring m.state c.args.helper.lane c.args.helper.number c.in-Some.running
    c.in-Some-waiting.flush machine.wiring machine.state (sym c.in-Some.ensures.running) c.in-Some-waiting.is in
    subst (λ (f : Waiting). f.target < items m.wiring) (sym c.in-Some-waiting.flush-is) below

pub returns : goal.returns
returns g c =
    let m = c.args.self.now in
    let machine = c.in-Some.ensures.machine in
    let left = subst (λ (f : Waiting). IsTrue c.is_held_back.result ↔ IsHeldBack m.wiring m.state f.whole f.target f.mark) c.in-Some-waiting.flush-is c.is_held_back.ensures in
    HelperGoesOn-waiting m.wiring m.state c.args.helper.lane c.args.helper.number machine.state c.requires
    c.in-Some.running (sym c.in-Some.ensures.running) c.in-Some-waiting.flush c.in-Some-waiting.is
    c.is_held_back.result left
