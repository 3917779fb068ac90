use Rattle.std.proofs.Common.{◌≡◌, rules, ℕ, ◌<◌, sym, subst}
use Rattle.wq_core.specs.Wiring.{items}
use Rattle.wq_core.proofs.LawfulSteps.{waiting-target}
use Rattle.wq_core.proofs.machine.Core.may_be_over.Goals as goal

pub is_held_back-requires : goal.is_held_back-requires
is_held_back-requires g c =
    let m = c.args.self.now in
    let machine = c.in_ok-running.ensures.machine in
    let below = waiting-target m.wiring m.state c.args.context.lane c.args.context.number c.in_ok-running.running
    c.in_ok-flush.flush machine.wiring machine.state (sym c.in_ok-running.ensures.running) c.in_ok-flush.was in
    let same : c.in_ok-flush.flush.target ≡ c.args.target = search rules in
    subst (λ (i : ℕ). i < items m.wiring) same below
