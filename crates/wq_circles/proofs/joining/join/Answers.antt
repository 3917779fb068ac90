use Rattle.std.proofs.Common.{ℕ, ◌<◌, sym, subst}
use Rattle.std.specs.List.{All}
use Rattle.wq_circles.proofs.Joined.{joined-within}
use Rattle.wq_circles.proofs.joining.join.Goals as goal

pub unwrap-requires : goal.unwrap-requires
unwrap-requires g c =
    let a = c.args.assigned.now.workqueues.assignment in
    let is = c.workqueues.ensures.assigned.assignment in
    let count = rw (c.assignment.ensures, c.workqueues.ensures.is) at c.lanes-count.ensures.lanes in
    let within = joined-within a c.args.lowest.now c.requires.one_each c.requires.within is.assignment.within in
    c.new.ensures.exactly.1 (
      c.lanes-count.ensures.few,
      subst (λ (n : ℕ). All (λ l. l < n) c.in_ok-lanes.lanes.items)
          (sym count) (subst (All (λ l. l < a.lanes)) (sym c.in_ok-lanes.ensures.lanes) within),
    )
