use Rattle.std.proofs.Common.{ℕ, List, Option, None, not, map, get_or, ap, ◌∙◌}
use Rattle.wq_fixed.specs.Fixed.{has_none}
use Rattle.wq_cert.proofs.FixedWorkqueues.{AreNoted-fixed}
use Rattle.wq_cert.proofs.noted_workqueues.NotedWorkqueues.of_fixed.Goals as goal

pub returns : goal.returns
returns g c =
    let p = c.args.groups.now in
    AreNoted-fixed p c.args.fixed.now c.len-groups.ensures.partition c.requires.groups c.lanes.ensures.fixed
    c.lanes.result c.in_ok-stood.stood.items c.in_ok-lane_of_group.lane_of_group.items c.lanes.ensures.lanes
    (c.in_ok-stood.ensures
    ∙ ap (λ (ls : List (Option ℕ)). map (λ h. not (has_none (get_or ls h None))) p.group_of) c.lane_of_group.ensures)
    (c.in_ok-lane_of_group.ensures.items ∙ c.lane_of_group-2.ensures)
