use Rattle.std.proofs.Common.{Bool, List, length, ap, ap₂, ◌∙◌}
use Rattle.std.proofs.lemmas.List.FromFn.{length-range_with_len}
use Rattle.wq_groups.specs.Assignment.{Assignment}
use Rattle.wq_core.specs.Wiring.{own_lanes}
use Rattle.wq_core.specs.Workqueues.{Workqueues, all_rescued}
use Rattle.wq_groups.specs.DeclaredGroups.{Declared}
use Rattle.wq_commands.proofs.assigned.own_workqueues.Goals as goal

-- an assignment with a list of bare lanes
abbrev with_list : Assignment → List Bool → Workqueues
with_list a bare = record { assignment = a; bare = bare }

pub returns-clause-workqueues : goal.returns-clause-workqueues
returns-clause-workqueues g c =
    c.new-2.ensures
    ∙ ap₂ with_list c.in_ok-assignment.ensures.lanes c.new.ensures.items
    ∙ ap (λ (d : Declared). all_rescued (own_lanes d.partition.groups)) c.declared.view_is

pub returns-clause-assigned : goal.returns-clause-assigned
returns-clause-assigned g c =
    ap (λ (ws : Workqueues). length ws.assignment.lane_of_group) c.new-2.ensures
    ∙ ap (λ (a : Assignment). length a.lane_of_group) c.in_ok-assignment.ensures.lanes
    ∙ length-range_with_len 0 c.declared.inside.groups.groups
    ∙ ap (λ (s : Declared). s.partition.groups) c.declared.view_is
