use Rattle.std.proofs.Common.{◌≡◌, None, sym, ◌∙◌, rules}
use Rattle.wq_core.specs.State.{lane_at}
use Rattle.wq_core.proofs.Padding.{no_running}
use Rattle.wq_core.proofs.Starts.{first-lawful}
use Rattle.wq_core.proofs.machine.Core.may_start_first.Goals as goal

pub returns-then-eq : goal.returns-then-eq
returns-then-eq g c =
    let m = c.args.self.now in
    let idle : (lane_at m.state c.args.q).running ≡ None = sym c.running_on.ensures.running ∙ no_running c.running_on.result c.is_some.result c.is_some.ensures c.if-is_some.false in
    let same : c.in_ok-next.next.item ≡ c.args.item = search rules in
    first-lawful m.wiring m.state c.args.q c.running_on.ensures.machine.state c.args.item c.in_ok-next.next idle (sym c.in_ok-next.ensures.next) same
