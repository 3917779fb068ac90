use Rattle.std.proofs.Common.{◌≡◌, ℕ, ◌+◌, ◌<◌, false, get_or, take, refl, sym, ap, subst, ◌∙◌, arith, Vec}
use Rattle.std.proofs.lemmas.Bool.{ne_eqb}
use Rattle.wq_core.specs.declared.step.Step.{Step}
use Rattle.wq_core.specs.declared.step.Step.TheVariants.{Queue, Cancel, Start, Wait, Over, WaitAll, OverAll, Finish, Help}
use Rattle.wq_core.specs.Runs.{queues}
use Rattle.wq_checker.proofs.QueueCounts.{Counted, Counted-other, Counted-queue, Counted-few}
use Rattle.wq_checker.proofs.once.count_queueings.Goals as goal
use Rattle.wq_checker.proofs.once.count_queueings.Goals.{in-Queue+then-item-items, in-Queue+else-item-items, in_default}

-- a step that is no queueing queues nothing
queues-other : (step : Step) (i : ℕ) → ((j : ℕ) → ¬ (step ≡ Queue j)) → queues i step ≡ false
queues-other (Queue j) i none = absurd (none j refl)
queues-other (Cancel j) i none = refl
queues-other (Start q j) i none = refl
queues-other (Wait q b) i none = refl
queues-other (Over q b) i none = refl
queues-other (WaitAll q b) i none = refl
queues-other (OverAll q b) i none = refl
queues-other (Finish q j) i none = refl
queues-other (Help q h deed) i none = refl

pub overflow_add-index_mut : goal.overflow_add-index_mut
overflow_add-index_mut g c =
    omega (arith, Counted-few c.args.steps.now c.args.items c.loop-step.step-index c.loop-step.counts.items c.loop-step-test.true c.loop-step.invariant c.from-item.result c.index_mut.result.now c.if-item-items.true c.index_mut.ensures.value, c.loop-step-test.true, c.requires)

pub loop-step-preserved : goal.loop-step-preserved
loop-step-preserved g c =
    let steps = c.args.steps.now in
    let n = c.args.items in
    let k = c.loop-step.step-index in
    let counts = c.loop-step.counts.items in
    let within = c.loop-step-test.true in
    let so_far = c.loop-step.invariant in
    let step = c.step-item.result in
    elim c.match-step.branch [
      | in-Queue+then-item-items v ↦
          (let is : Queue v.in-Queue.item ≡ get_or steps k (Queue v.in-Queue.item) = subst (λ (s : Step). s ≡ get_or steps k s) v.in-Queue.is c.step-item.is in
          let counted = Counted-queue steps n k counts within so_far v.in-Queue.item v.from-item.result v.index_mut.result.now is (v.from-item.ensures ∙ v.get.ensures) v.if-item-items.true v.index_mut.ensures.value in
          subst (Counted (take (k + 1) steps) n) (sym (ap (λ (x : Vec ℕ _). x.items) v.counts-is)) counted)
      | in-Queue+else-item-items v ↦
          (let other : (i : ℕ) → i < n → queues i step ≡ false = λ i below. ap (queues i) v.in-Queue.is ∙ ne_eqb v.in-Queue.item i (λ e. absurd (omega (arith, e, below, v.if-item-items.false, v.from-item.ensures, v.get.ensures))) in
          subst (Counted (take (k + 1) steps) n) (sym (ap (λ (x : Vec ℕ _). x.items) v.counts-is)) (Counted-other steps n k counts within so_far step c.step-item.is other))
      | in_default v ↦
          (let other : (i : ℕ) → i < n → queues i step ≡ false = λ i below. queues-other step i v.in_default.not-Queue in
          subst (Counted (take (k + 1) steps) n) (sym (ap (λ (x : Vec ℕ _). x.items) v.counts-is)) (Counted-other steps n k counts within so_far step c.step-item.is other))
    ]
