use Rattle.std.proofs.Common.{◌≡◌, None, not, map, take, get_or}
use Rattle.wq_fixed.specs.Fixed.{has_none}
use Rattle.wq_cert.proofs.noted_workqueues.fixed_items.Given as goal

abbrev pub invariant-loop-group : goal.invariant-loop-group
invariant-loop-group g l =
    l.stood.items ≡ map (λ h. not (has_none (get_or l.lane_of_group h None))) (take l.group-index l.groups.group_of)
