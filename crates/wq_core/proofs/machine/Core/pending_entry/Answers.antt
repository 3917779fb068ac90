use Rattle.std.proofs.Common.{sym, subst, ◌∙◌}
use Rattle.wq_core.specs.State.{HasPending}
use Rattle.wq_core.specs.Held.{Machine, machine_of}
use Rattle.wq_core.proofs.Numbered.{not_numbered}
use Rattle.wq_core.proofs.Results.{IfNone-holds}
use Rattle.wq_core.proofs.machine.Core.pending_entry.Goals as goal

pub returns-in_err-number-clause-none : goal.returns-in_err-number-clause-none
returns-in_err-number-clause-none g c =
    let core = c.self.inside in
    let held = machine_of core.targets core.lane_of_item.items core.bare.items core.helpers core.lanes core.next in
    let none = not_numbered held.wiring held.state core.pending c.args.item c.self.invariant.numbers (sym c.of.ensures ∙ c.in_err-number.was) in
    IfNone-holds c.from_residual.result (subst (λ (m : Machine). ¬ HasPending m.state c.args.item) c.self.view_is none)
