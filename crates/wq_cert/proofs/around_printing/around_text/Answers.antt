use Rattle.std.proofs.Common.{◌<◌, ℕ, List, sym, subst, ◌∙◌}
use Rattle.std.specs.List.{All}
use Rattle.wq_groups.specs.Assignment.{item_lanes}
use Rattle.wq_groups.proofs.Lanes.{item_lanes-within}
use Rattle.wq_cert.proofs.around_printing.around_text.Goals as goal

pub print_around-requires-clause-within : goal.print_around-requires-clause-within
print_around-requires-clause-within g c =
    let p = c.args.groups.now in
    let a = c.args.assignment.now in
    let within =
    item_lanes-within p.group_of p.groups a c.in_ok-lane.ensures.partition.within
    (record { one_each = c.requires.assigned; within = c.lanes-lanes.ensures.within }) in
    subst (λ (ls : List ℕ). All (λ l. l < c.lanes-lanes.result) ls)
    (sym (c.deref.ensures.value ∙ c.in_ok-lane.ensures.lanes))
    (subst (λ n. All (λ l. l < n) (item_lanes a p.group_of)) (sym c.lanes-lanes.ensures.lanes) within)
