use Rattle.std.proofs.Common.{◌≡◌, ◌↔◌, ap, subst, ◌∙◌}
use Rattle.wq_items.specs.Table.{Table}
use Rattle.wq_groups.specs.Declaration.{declaration_of}
use Rattle.wq_groups.specs.DeclaredGroups.{declared_waits}
use Rattle.wq_groups.specs.Partition.{Partition}
use Rattle.wq_core.specs.Wiring.{Wiring}
use Rattle.wq_core.specs.Workqueues.{Workqueues, wiring_of}
use Rattle.wq_core.specs.Deadlock.{DeadlocksBy}
use Rattle.wq_checker.specs.declared.run.RunEnd.TheVariants.{Deadlock}
use Rattle.wq_checker.specs.RunEnds.{EndsAs}
use Rattle.wq_checker.proofs.RunEndLemmas.{EndsAs-deadlocks}
use Rattle.wq_checker.proofs.checking_around.deadlocks.Goals as goal

pub returns : goal.returns
returns g c =
    let declared = c.args.start.now.declared in
    let workqueues = c.args.start.now.workqueues in
    let table = c.table-table.result.now in
    let groups = c.groups-groups.result.now in
    let steps = c.args.steps.now in
    let end = c.in_ok-end.end in
    let same : wiring_of (declaration_of table groups) c.workqueues-workqueues.result.now ≡ wiring_of
    (declared_waits declared) workqueues =
    ap (λ (ws : Workqueues). wiring_of (declaration_of table groups) ws) c.workqueues-workqueues.ensures.is
    ∙ ap (λ (t : Table). wiring_of (declaration_of t groups) workqueues) c.table-table.ensures.is
    ∙ ap (λ (p : Partition). wiring_of (declaration_of declared.table p) workqueues) c.groups-groups.ensures.is in
    let is : (end ≡ Deadlock) ↔ DeadlocksBy (wiring_of (declared_waits declared) workqueues) steps =
    EndsAs-deadlocks (wiring_of (declared_waits declared) workqueues) steps end
    (subst (λ (w : Wiring). EndsAs w steps end) same c.in_ok-end.ensures.end) in
    ((λ e. is.0 (c.is_deadlock.ensures.0 e)), (λ h. c.is_deadlock.ensures.1 (is.1 h)))
