use Rattle.std.proofs.Common.{◌≡◌, ℕ, ◌+◌, List, slice_index, sym, subst, ap, ◌∙◌, arith}
use Rattle.wq_levels.specs.Taking.{AreFree}
use Rattle.wq_levels.proofs.Taken.{AreFree-more, AreFree-skipped}
use Rattle.wq_levels.proofs.progress.free.Goals as goal
use Rattle.wq_levels.proofs.progress.free.Goals.{then-remaining-from-eq0+in_ok-push, else-remaining-from-eq0}

pub loop-v-preserved : goal.loop-v-preserved
loop-v-preserved g c =
    let remaining = c.args.remaining.now in
    let v : ℕ = c.loop-v.v in
    let at : slice_index remaining v ≡ slice_index remaining c.from-in-loop-v.result = ap (slice_index remaining) (sym c.from-in-loop-v.ensures) in
    elim c.if-remaining-from-eq0.branch [
      | then-remaining-from-eq0+in_ok-push w ↦
          subst (λ (order : List ℕ). AreFree (v + 1) remaining order) (sym (ap (λ order. order.items) w.order-is ∙ w.in_ok-push.ensures.items))
          (AreFree-more v remaining c.loop-v.order.items c.loop-v.invariant (at ∙ w.if-remaining-from-eq0.true))
      | else-remaining-from-eq0 w ↦
          subst (λ (order : List ℕ). AreFree (v + 1) remaining order) (sym (ap (λ order. order.items) w.order-is))
          (AreFree-skipped v remaining c.loop-v.order.items c.loop-v.invariant (λ none. w.if-remaining-from-eq0.false (sym at ∙ none)))
    ]

pub returns : goal.returns
returns g c =
    subst (λ (n : ℕ). AreFree n c.args.remaining.now c.loop-v.order.items) (omega (arith, c.loop-v-test.false, c.loop-v.auto.v-end)) c.loop-v.invariant
