use Rattle.std.proofs.Common.{◌≡◌, subst, ◌∙◌}
use Rattle.wq_groups.specs.DeclaredGroups.{declared_waits}
use Rattle.wq_core.specs.Wiring.{Wiring}
use Rattle.wq_hang.specs.Search.{AreMade}
use Rattle.wq_hang.proofs.SomeLanes.{same_bare}
use Rattle.wq_hang.proofs.rounds.Rounds.new.Goals as goal

pub invariant_of-result : goal.invariant_of-result
invariant_of-result g c =
    let d = declared_waits c.args.assigned.now.declared in
    let ws = c.args.assigned.now.workqueues in
    let wires = c.in_ok-wires.wires in
    let bare = rw c.workqueues-workqueues.ensures.is at c.bare.ensures in
    let same : c.new-waits.result ≡ wires =
    c.new-waits.ensures ∙ same_bare wires d ws c.bare.result.now c.in_ok-wires.ensures bare in
    subst (λ (v : Wiring). AreMade v c.in_ok-on.on c.in_ok-marks.marks.items) same (record {
      items_on = c.in_ok-on.ensures;
      one_each = c.in_ok-marks.ensures.len;
      numbers = c.deref.result.now;
      marked = c.in_ok-marks.ensures.marked;
    })
