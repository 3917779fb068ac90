use Rattle.std.proofs.Common.{◌≡◌, length, ap, sym, ◌∙◌}
use Rattle.wq_core.specs.Workqueues.{Workqueues}
use Rattle.wq_repair.specs.Steps.{Named}
use Rattle.wq_repair.proofs.scope.scope_of.Goals as goal

pub given_lanes-requires-clause-lanes : goal.given_lanes-requires-clause-lanes
given_lanes-requires-clause-lanes g c =
    ap length (c.as_slice.ensures.value ∙ ap (λ (x : Named). x.lanes) c.named.view_is)
    ∙ c.requires.named.1.lanes.one_each
    ∙ sym (ap (λ (ws : Workqueues). ws.assignment.lanes) c.workqueues_of-workqueues.ensures.is)

pub movable_groups-requires : goal.movable_groups-requires
movable_groups-requires g c =
    ap length c.as_slice-4.ensures.value ∙ c.requires.needed
    ∙ sym (ap length (c.as_slice-3.ensures.value ∙ ap (λ (x : Named). x.groups) c.named.view_is)
    ∙ c.requires.named.1.groups.one_each)

pub returns-clause-scope : goal.returns-clause-scope
returns-clause-scope g c = λ names are first.
    let n = c.args.named.now in
    let groups : c.as_slice-3.result.now ≡ n.groups =
    c.as_slice-3.ensures.value ∙ ap (λ (x : Named). x.groups) c.named.view_is in
    let lanes : c.as_slice.result.now ≡ n.lanes =
    c.as_slice.ensures.value ∙ ap (λ (x : Named). x.lanes) c.named.view_is in
    let is = c.workqueues_of-workqueues.ensures.is in
    record {
      assignment = rw is at c.workqueues_of-workqueues.ensures.assignment.assignment;
      one_each = c.requires.needed;
      named = n;
      are_named = are;
      are_movable = rw (c.as_slice-4.ensures.value, groups, are.groups.one_each) at c.in_ok-movable.ensures;
      are_given = rw (c.as_slice-2.ensures.value, lanes, is) at c.in_ok-given.ensures;
      first = first;
    }
