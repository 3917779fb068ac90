use Rattle.std.proofs.Common.{List, refl, subst, sym}
use Rattle.wq_groups.specs.DeclaredGroups.{declared_waits}
use Rattle.wq_graph.specs.declared.arc.WaitArc.{WaitArc}
use Rattle.wq_around.specs.Around.{IsCircledAround, IsHeldByNone}
use Rattle.wq_around_command.proofs.planning.print_around.Goals as goal

pub circle_of_start-requires : goal.circle_of_start-requires
circle_of_start-requires g c =
    let d = declared_waits c.args.start.now.declared in
    let circled : IsCircledAround d c.args.fixed.now c.in-Circle.arcs.items = rw c.in-Circle.is at c.requires.plans in (
      c.args.fixed.now,
      c.requires.fixed,
      c.requires.start,
      subst (λ (l : List WaitArc). IsCircledAround d c.args.fixed.now l) (sym c.as_slice.ensures.value) circled,
    )

pub norescuer_of_start-requires : goal.norescuer_of_start-requires
norescuer_of_start-requires g c =
    let d = declared_waits c.args.start.now.declared in
    let held : IsHeldByNone d c.args.fixed.now c.in-NoRescuer.arc = rw c.in-NoRescuer.is at c.requires.plans in
    (c.args.fixed.now, c.requires.fixed, c.requires.start, held)

pub returns-in_ok-text-in-Circle : goal.returns-in_ok-text-in-Circle
returns-in_ok-text-in-Circle g c =
    let h = rw (c.requires.start, c.as_slice.ensures.value) at c.in_ok-text-in-Circle.ensures in
    rw c.in-Circle.is (refl, h.0, h.1, h.2)

pub returns-in_ok-text-in-NoRescuer : goal.returns-in_ok-text-in-NoRescuer
returns-in_ok-text-in-NoRescuer g c =
    let h = rw c.requires.start at c.in_ok-text-in-NoRescuer.ensures in
    rw c.in-NoRescuer.is (refl, h.0, h.1, h.2)
