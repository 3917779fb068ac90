use Rattle.std.proofs.Common.{◌≡◌, rules, ℕ, ◌<◌, sym, subst}
use Rattle.wq_core.specs.Wiring.{items}
use Rattle.wq_core.proofs.LawfulSteps.{waiting-target}
use Rattle.wq_diagnosis.proofs.unlawful.over_reason.Goals as goal

pub holder-requires : goal.holder-requires
holder-requires g c =
    let m = c.args.core.now in
    let machine = c.in-Some.ensures.machine in
    let flush = c.in-Some-waiting.flush in
    let below = waiting-target m.wiring m.state c.args.q 0 c.in-Some.running flush machine.wiring machine.state
    (sym c.in-Some.ensures.running) c.in-Some-waiting.is in
    let same : flush.target ≡ c.args.target = search rules in
    subst (λ (i : ℕ). i < items m.wiring) same below
