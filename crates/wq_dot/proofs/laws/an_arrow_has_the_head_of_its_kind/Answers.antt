use Rattle.std.proofs.Common.{ap, ◌∙◌}
use Rattle.wq_items.specs.declared.target.Target.{Target}
use Rattle.wq_items.specs.Table.{targets_of}
use Rattle.wq_items.proofs.Tables.{targets_of-rise}
use Rattle.wq_circles.proofs.AtPlaces.{said_at}
use Rattle.wq_dot.proofs.laws.an_arrow_has_the_head_of_its_kind.Goals as goal

pub returns : goal.returns
returns c = λ t p i target table there.
    said_at (λ (u : Target). u.whole) (targets_of t.waits i) (targets_of-rise t.waits i table.places_rise) target.place
    there.0 target there.1 (ap (λ (u : Target). u.place) there.2)
    ∙ ap (λ (u : Target). u.whole) there.2
