use Rattle.std.proofs.Common.{ℕ, ◌<◌, sym, subst, ◌∙◌}
use Rattle.std.specs.List.{All}
use Rattle.wq_groups.proofs.Lanes.{item_lanes-within}
use Rattle.wq_graph.proofs.graph.WaitGraph.of_lanes.Goals as goal

pub of_vertices-requires-clause-within : goal.of_vertices-requires-clause-within
of_vertices-requires-clause-within g c =
    let a = c.args.assignment.now in
    let within = item_lanes-within c.args.groups.now.group_of c.args.groups.now.groups a c.in_ok-vertex_of.ensures.partition.within (record { one_each = c.requires.assigned; within = c.lanes-lanes.ensures.within }) in
    subst (λ (n : ℕ). All (λ q. q < n) c.as_slice.result.now) (sym c.lanes-lanes.ensures.lanes) (
    subst (All (λ q. q < a.lanes)) (sym (c.as_slice.ensures.value ∙ c.in_ok-vertex_of.ensures.lanes)) within
    )
