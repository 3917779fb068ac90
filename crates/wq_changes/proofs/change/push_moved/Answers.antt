use Rattle.std.proofs.Common.{◌++◌, ◌∷◌, [], ℕ, sym, ap, ◌∙◌}
use Rattle.wq_changes.specs.Changes.{has_moved}
use Rattle.wq_changes.specs.declared.change.Change.TheVariants as change
use Rattle.wq_changes.proofs.Ranges.{passed, failed}
use Rattle.wq_changes.proofs.change.push_moved.Goals as goal
use Rattle.wq_changes.proofs.change.push_moved.Goals.{then-has_moved+in_ok-push, else-has_moved}

pub loop-number-preserved : goal.loop-number-preserved
loop-number-preserved g c =
    let p = has_moved c.args.old.now c.args.new.now in
    let n = c.loop-number.number in
    let items = c.loop-number.changes.items in
    let is = rw c.new-group.ensures at c.has_moved.ensures in
    elim c.if-has_moved.branch [
      | then-has_moved+in_ok-push w ↦
          rw w.changes-is
          (passed (λ h. change.Moved h) p n c.args.changes.now.items items w.push.new.self.items c.loop-number.invariant (sym is ∙ w.if-has_moved.true)
          (w.in_ok-push.ensures.items ∙ ap (λ (h : ℕ). items ++ (change.Moved h ∷ [])) c.new-group.ensures))
      | else-has_moved w ↦ rw w.changes-is (failed (λ h. change.Moved h) p n c.args.changes.now.items items c.loop-number.invariant (sym is ∙ w.if-has_moved.false))
    ]
