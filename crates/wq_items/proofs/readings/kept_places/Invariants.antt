use Rattle.std.proofs.Common.{◌≡◌, map, take}
use Rattle.std.specs.Prelude.{filter}
use Rattle.wq_items.specs.declared.target.Target.{Target}
use Rattle.wq_items.specs.Readings.{is_marked}
use Rattle.wq_items.proofs.readings.kept_places.Given as goal

abbrev pub invariant-loop-target : goal.invariant-loop-target
invariant-loop-target g l = l.places.items ≡ map (λ (t : Target). t.place)
    (filter (is_marked l.marks) (take l.target-index l.targets))
