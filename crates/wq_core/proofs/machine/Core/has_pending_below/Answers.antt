use Rattle.std.proofs.Common.{◌↔◌, ltb, sym, subst, ◌∙◌}
use Rattle.std.specs.Prelude.{IsTrue}
use Rattle.wq_core.specs.Held.{Machine, machine_of, HasPendingBelow}
use Rattle.wq_core.proofs.Numbered.{numbered-below, not_numbered-below}
use Rattle.wq_core.proofs.machine.Core.has_pending_below.Goals as goal

pub returns-in-Some : goal.returns-in-Some
returns-in-Some g c =
    let core = c.self.inside in
    let held = machine_of core.targets core.lane_of_item.items core.bare.items core.helpers core.lanes core.next in
    subst (λ (m : Machine). IsTrue (ltb c.in-Some.number c.args.mark) ↔ HasPendingBelow m.state c.args.item c.args.mark) c.self.view_is
    (numbered-below held.wiring held.state core.pending c.args.item c.self.invariant.numbers c.in-Some.number c.args.mark (sym c.of.ensures ∙ c.in-Some.is))

pub returns-in-None : goal.returns-in-None
returns-in-None g c =
    let core = c.self.inside in
    let held = machine_of core.targets core.lane_of_item.items core.bare.items core.helpers core.lanes core.next in
    let none = not_numbered-below held.wiring held.state core.pending c.args.item c.self.invariant.numbers c.args.mark (sym c.of.ensures ∙ c.in-None.is) in
    ((λ h. absurd cc), (λ h. absurd (none (subst (λ (m : Machine). HasPendingBelow m.state c.args.item c.args.mark) (sym c.self.view_is) h))))
