use Rattle.std.proofs.Common.{◌≡◌, ℕ, ◌==◌, ◌++◌, ◌∷◌, [], false, sym, ap, ◌∙◌, arith}
use Rattle.std.specs.List.{list_any}
use Rattle.std.proofs.lemmas.List.{get_or_default}
use Rattle.wq_core.specs.declared.step.Step.TheVariants.{Queue}
use Rattle.wq_deadlock.proofs.Queueings.{queued_more, queued_same}
use Rattle.wq_deadlock.proofs.queueing.queueings.Goals as goal
use Rattle.wq_deadlock.proofs.queueing.queueings.Goals.{then-not-index+in_ok-push-2, else-not-index}

pub loop-number-preserved : goal.loop-number-preserved
loop-number-preserved g c =
    let first = c.args.first.now in
    let n = c.loop-number.number in
    let marks = c.in_ok-is_first.ensures in
    let fits = c.loop-number-test.true in
    let here = rw c.from-in-loop-number.ensures at c.index.ensures in
    let among : list_any (λ j. n == j) first ≡ c.index.result.now =
    sym (marks.marked n fits)
    ∙ get_or_default c.in_ok-is_first.is_first.items n false c.index.result.now (omega (arith, marks.len, fits))
    ∙ sym here in
    elim c.if-not-index.branch [
      | then-not-index+in_ok-push-2 w ↦
          rw w.steps-is
          (queued_more first n c.loop-number.steps.items w.push-then-not-index.new.self.items
          c.loop-number.invariant (among ∙ w.if-not-index.true)
          (w.in_ok-push-2.ensures.items ∙ ap (λ (i : ℕ). c.loop-number.steps.items ++ (Queue i ∷ [])) w.new.ensures))
      | else-not-index w ↦
          rw w.steps-is
          (queued_same first n c.loop-number.steps.items c.loop-number.invariant (among ∙ w.if-not-index.false))
    ]
