use Rattle.std.proofs.Common.{subst, ◌∙◌}
use Rattle.wq_items.specs.Chain.{HasCircle}
use Rattle.wq_groups.specs.Declaration.{GroupWaits, declaration_of}
use Rattle.wq_groups.specs.DeclaredGroups.{declared_waits, Declared}
use Rattle.wq_plan.specs.Solve.{IsCircled}
use Rattle.wq_voice.proofs.chain.fewest_without.Goals as goal

pub returns : goal.returns
returns g c =
    let circled : IsCircled (declaration_of c.reading-2.inside.table c.reading-2.inside.groups) c.in-Circle.arcs.items =
    rw c.in-Circle.is at c.in_ok-assignment.ensures.answer in
    subst (λ (s : Declared). HasCircle (GroupWaits (declared_waits s)) s.partition.groups)
    (c.reading-2.view_is ∙ c.in_ok-reading.ensures) circled.has_circle
