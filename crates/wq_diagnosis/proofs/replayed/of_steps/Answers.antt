use Rattle.std.proofs.Common.{◌≡◌, rules, subst, ap}
use Rattle.wq_core.specs.Building.{first_machine_on}
use Rattle.wq_core.specs.Held.{Machine}
use Rattle.wq_core.specs.Wiring.{Wiring}
use Rattle.wq_core.specs.Workqueues.{wiring_of}
use Rattle.wq_checker.specs.RunEnds.{IsFirstUnlawful}
use Rattle.wq_groups.specs.DeclaredGroups.{declared_waits}
use Rattle.wq_diagnosis.proofs.Found.{not_first}
use Rattle.wq_diagnosis.proofs.replayed.of_steps.Goals as goal

pub returns-in_default : goal.returns-in_default
returns-in_default g c =
    let a = c.args.assigned.now in
    let machine : c.in_ok-core.core ≡ first_machine_on (declared_waits a.declared) a.workqueues 0 =
    rw (c.table.ensures.is, c.groups.ensures.is, c.workqueues.ensures.is) at c.in_ok-core.ensures.machine in
    let wired : c.in_ok-core.core.wiring ≡ wiring_of (declared_waits a.declared) a.workqueues =
    ap (λ (m : Machine). m.wiring) machine in
    subst (λ (w : Wiring). ¬ IsFirstUnlawful w c.args.steps.now c.args.number) wired
    (c.in_default.ensures.none c.args.number)

pub returns-then-first-number : goal.returns-then-first-number
returns-then-first-number g c =
    let a = c.args.assigned.now in
    let steps = c.args.steps.now in
    let first = c.in-Some.first in
    let machine : c.in_ok-core.core ≡ first_machine_on (declared_waits a.declared) a.workqueues 0 =
    rw (c.table.ensures.is, c.groups.ensures.is, c.workqueues.ensures.is) at c.in_ok-core.ensures.machine in
    let wired : c.in_ok-core.core.wiring ≡ wiring_of (declared_waits a.declared) a.workqueues =
    ap (λ (m : Machine). m.wiring) machine in
    let one = subst (λ (w : Wiring). IsFirstUnlawful w steps first.number) wired c.in-Some.ensures.some.first in
    let other : first.number ≡ c.args.number → ⊥ = search rules in
    not_first (wiring_of (declared_waits a.declared) a.workqueues) steps first.number c.args.number other one
