use Rattle.std.proofs.Common.{◌++◌, ◌∷◌, [], ℕ, sym, ap, ◌∙◌}
use Rattle.wq_changes.specs.Changes.{is_given}
use Rattle.wq_changes.specs.declared.change.Change.TheVariants as change
use Rattle.wq_changes.proofs.Ranges.{passed, failed}
use Rattle.wq_changes.proofs.change.push_given.Goals as goal
use Rattle.wq_changes.proofs.change.push_given.Goals.{then-is_given+in_ok-push, else-is_given}

pub loop-number-preserved : goal.loop-number-preserved
loop-number-preserved g c =
    let p = is_given c.args.groups c.args.old.now c.args.new.now in
    let n = c.loop-number.number in
    let items = c.loop-number.changes.items in
    let is = rw c.new-lane.ensures at c.is_given.ensures in
    elim c.if-is_given.branch [
      | then-is_given+in_ok-push w ↦
          rw w.changes-is
          (passed (λ q. change.Given q) p n c.args.changes.now.items items w.push.new.self.items c.loop-number.invariant (sym is ∙ w.if-is_given.true)
          (w.in_ok-push.ensures.items ∙ ap (λ (q : ℕ). items ++ (change.Given q ∷ [])) c.new-lane.ensures))
      | else-is_given w ↦ rw w.changes-is (failed (λ q. change.Given q) p n c.args.changes.now.items items c.loop-number.invariant (sym is ∙ w.if-is_given.false))
    ]
