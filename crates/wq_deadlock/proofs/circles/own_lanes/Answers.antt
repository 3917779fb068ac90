use Rattle.std.proofs.Common.{ℕ, ◌<◌, sym, subst, ◌∙◌}
use Rattle.std.specs.List.{All}
use Rattle.wq_items.proofs.Lists.{range_with_len-below}
use Rattle.wq_deadlock.proofs.OwnLanes.{same_own_lanes}
use Rattle.wq_deadlock.proofs.circles.own_lanes.Goals as goal

pub unwrap-requires : goal.unwrap-requires
unwrap-requires g c =
    let below = subst (All (λ l. l < c.len.result)) (sym c.in_ok-lanes.ensures.lanes) (range_with_len-below c.len.result) in
    let within = subst (λ (n : ℕ). All (λ l. l < n) c.in_ok-lanes.lanes.items) (c.len.ensures.len ∙ sym c.len-2.ensures.len) below in
    c.new.ensures.exactly.1 (c.len-2.ensures.few, within)

pub returns-clause-lanes : goal.returns-clause-lanes
returns-clause-lanes g c =
    let made = rw c.unwrap.ensures at c.new.ensures.some in
    same_own_lanes c.unwrap.result c.args.groups.now.groups (made.0 ∙ c.len-2.ensures.len) (rw c.len.ensures.len at (made.1 ∙ c.in_ok-lanes.ensures.lanes))
