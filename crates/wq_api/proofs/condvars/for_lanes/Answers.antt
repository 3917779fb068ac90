use Rattle.std.proofs.Common.{[], ◌∷◌, length, sym, ap, subst, ◌∙◌, arith}
use Rattle.std.proofs.lemmas.List.{length-append}
use Rattle.wq_history.specs.declared.sleepers.Sleepers.TheVariants.{Contexts, LaneWaiters}
use Rattle.wq_api.specs.Locking.{AreOfLanes}
use Rattle.wq_api.proofs.LaneBells.{of_lanes_push}
use Rattle.wq_api.proofs.condvars.for_lanes.Goals as goal

pub loop-q-preserved : goal.loop-q-preserved
loop-q-preserved g c =
    let before = c.loop-q.lanes.items in
    let more =
    length-append before (record { contexts = c.new-contexts.result; waiters = c.new-waiters.result } ∷ []) in (
      omega (arith, c.push_reserved.ensures.len, c.loop-q.invariant.0),
      omega (arith, c.push_reserved.ensures.capacity, c.loop-q.invariant.1),
      omega (arith, ap length c.push_reserved.ensures.items, more, c.loop-q.invariant.2),
      subst (AreOfLanes (λ x. x.contexts.of) (λ x. x.waiters.of)) (sym c.push_reserved.ensures.items)
          (of_lanes_push (λ x. x.contexts.of) (λ x. x.waiters.of) before _ c.loop-q.q (sym c.loop-q.invariant.2)
          c.loop-q.invariant.3
          (c.new-contexts.ensures ∙ ap Contexts c.new-lane.ensures)
          (c.new-waiters.ensures ∙ ap LaneWaiters c.new-lane.ensures)),
    )
