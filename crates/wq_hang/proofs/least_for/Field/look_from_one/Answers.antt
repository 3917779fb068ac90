use Rattle.std.proofs.Common.{ap, ◌∙◌, arith}
use Rattle.wq_core.specs.Wiring.{items}
use Rattle.wq_hang.specs.EndsFor.{Field}
use Rattle.wq_hang.proofs.Bounding.{AreBounds-none}
use Rattle.wq_hang.proofs.least_for.Field.look_from_one.Goals as goal

pub better_round-requires-clause-on : goal.better_round-requires-clause-on
better_round-requires-clause-on g c = c.self.invariant.items_on

pub better_round-requires-clause-first : goal.better_round-requires-clause-first
better_round-requires-clause-first g c =
    omega (arith, c.requires.item, ap (λ (f : Field). items f.wiring) c.self.view_is)

pub better_round-requires-clause-bounds : goal.better_round-requires-clause-bounds
better_round-requires-clause-bounds g c = λ rescuer.
    AreBounds-none c.self.inside.waits.now c.deref.result.now c.lanes.result c.args.item
    (c.deref.ensures.value ∙ c.in_ok-bounds.ensures)

pub better_round-requires-clause-low : goal.better_round-requires-clause-low
better_round-requires-clause-low g c = omega (arith, c.requires.best.most)
