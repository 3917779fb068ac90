use Rattle.std.proofs.Common.{◌≡◌, ◌⊎◌, inl, inr, ℕ, ◌+◌, true, false, List, [], ◌∷◌, ◌++◌, take, Result, Ok, Err, sym, ap, subst, ◌∙◌, arith}
use Rattle.std.specs.Prelude.{is_err, IfOk}
use Rattle.std.proofs.lemmas.List.{take_more}
use Rattle.wq_core.specs.declared.step.Step.{Step}
use Rattle.wq_core.specs.declared.step.StepError.{StepError}
use Rattle.wq_core.specs.Wiring.{Wiring}
use Rattle.wq_core.specs.Held.{IsDone}
use Rattle.wq_checker.specs.Searching.{IsPlayed}
use Rattle.wq_checker.proofs.PlayedRuns.{IsPlayed-more, next-done}
use Rattle.wq_checker.proofs.running.play.Goals as goal
use Rattle.wq_checker.proofs.running.play.Goals.{then-in_order, else-in_order}

-- what holds of the number that is given
from_ok : (r : Result ℕ StepError) (P : ℕ → Type 0) → false ≡ is_err r → IfOk r P → (n : ℕ) × P n
from_ok (Ok n) P made p = (n, p)
from_ok (Err e) P made p = absurd cc

-- the machine has no helpers
pub keeps_order-keeps-requires : goal.keeps_order-keeps-requires
keeps_order-keeps-requires g c = ap (λ (w : Wiring). w.helpers) c.loop-step.invariant.played.wiring ∙ c.requires.helpers

pub loop-step-preserved : goal.loop-step-preserved
loop-step-preserved g c =
    let w = c.args.core.now.wiring in
    let steps = c.args.steps.now in
    let k = c.loop-step.step-index in
    let step = c.step-item.result in
    let old = c.loop-step.core in
    let new = c.step.new.self in
    let b = c.loop-step.in_order in
    let keeps = c.keeps_order-keeps.result in
    let in_order = c.if-in_order.in_order in
    let made = from_ok c.step.result (λ n. IsDone old step n new) c.if-is_err.ensures.value c.step.ensures.done in
    let branch : ((b ≡ true) × (in_order ≡ keeps)) ⊎ ((b ≡ false) × (in_order ≡ false)) = elim c.if-in_order.branch [
      | then-in_order v ↦ inl (v.if-in_order.true, v.in_order-is)
      | else-in_order v ↦ inr (v.if-in_order.false, v.in_order-is ∙ v.if-in_order.false)
    ] in
    let played : IsPlayed w (take k steps ++ (step ∷ [])) in_order new = IsPlayed-more w (take k steps) step b keeps old new made.0 c.loop-step.invariant.played made.1 c.keeps_order-keeps.ensures in_order branch in
    let longer : take k steps ++ (step ∷ []) ≡ take (k + 1) steps = ap (λ (x : Step). take k steps ++ (x ∷ [])) c.step-item.is ∙ sym (take_more steps k step c.loop-step-test.true) in
    record {
      counted = omega (arith, c.loop-step.invariant.counted);
      played = subst (λ (l : List Step). IsPlayed w l in_order new) longer played;
      few_numbers = omega (arith, next-done old new step made.0 made.1, c.loop-step.invariant.few_numbers);
    }
