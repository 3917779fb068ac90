use Rattle.std.proofs.Common.{length, ap, sym, ◌∙◌}
use Rattle.wq_core.specs.Workqueues.{Workqueues}
use Rattle.wq_repair.specs.Ready.{Scope}
use Rattle.wq_repair.proofs.start.start_of.Goals as goal

pub start-requires-clause-lanes : goal.start-requires-clause-lanes
start-requires-clause-lanes g c =
    ap length (c.as_slice-2.ensures.value ∙ ap (λ (x : Scope). x.given) c.scope.view_is)
    ∙ c.requires.1.are_given.one_each
    ∙ sym (ap (λ (ws : Workqueues). ws.assignment.lanes) c.workqueues_of-workqueues.ensures.is)

pub returns : goal.returns
returns g c =
    rw (
      c.workqueues_of-workqueues.ensures.is,
      c.as_slice.ensures.value ∙ ap (λ (x : Scope). x.movable) c.scope.view_is,
      c.as_slice-2.ensures.value ∙ ap (λ (x : Scope). x.given) c.scope.view_is,
    ) at c.start.ensures
