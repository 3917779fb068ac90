use Rattle.std.proofs.Common.{◌≡◌, ℕ, suc, ◌-◌, ◌<◌, length, ap, arith}
use Rattle.wq_core.specs.Held.{HeldLane}
use Rattle.wq_core.proofs.Padding.{with_run_by-rescuer, with_run_by-helper}
use Rattle.wq_core.proofs.lane.Lane.set.Goals as goal

pub returns-then-context-eq0-clause-lane : goal.returns-then-context-eq0-clause-lane
returns-then-context-eq0-clause-lane g c =
    let inside = c.self.inside in
    rw (← c.self.view_is) (with_run_by-rescuer inside.pending.items inside.running inside.helping.items c.args.context c.args.running c.if-context-eq0.true)

pub returns-else-context-eq0-clause-lane : goal.returns-else-context-eq0-clause-lane
returns-else-context-eq0-clause-lane g c =
    let inside = c.self.inside in
    let h : ℕ = c.from.result - 1 in
    let helpers : length inside.helping.items ≡ c.args.self.now.helpers = ap (λ (l : HeldLane). l.helpers) c.self.view_is in
    let within : h < length inside.helping.items = omega (arith, helpers, c.requires, c.from.ensures, c.if-context-eq0.false) in
    let context : c.args.context ≡ suc h = omega (arith, c.from.ensures, c.if-context-eq0.false) in
    rw (← c.self.view_is) (with_run_by-helper inside.pending.items inside.running inside.helping.items c.args.context h c.args.running context within)
