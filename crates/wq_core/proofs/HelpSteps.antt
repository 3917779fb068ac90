-- Steps of helpers, as steps of their contexts.
use Rattle.std.proofs.Common.{◌≡◌, ◌≢◌, ℕ, ◌<◌, sym, subst, ap, ◌∙◌, arith}
use Rattle.std.specs.Prelude.{Result, Option, IfOk, IfErr}
use Rattle.wq_core.specs.declared.step.Step.{Step}
use Rattle.wq_core.specs.declared.step.Step.TheVariants.{Help}
use Rattle.wq_core.specs.declared.step.StepError.{StepError}
use Rattle.wq_core.specs.declared.step.HelpStep.{HelpStep}
use Rattle.wq_core.specs.Wiring.{Wiring}
use Rattle.wq_core.specs.State.{State}
use Rattle.wq_core.specs.Rules.{Lawful, step_in}
use Rattle.wq_core.specs.Held.{Machine, IsDone, IsRefusal, IsNumberOf}
use Rattle.wq_core.proofs.WaitSteps.{step_in-help}

-- helpers are numbered from 1
pub not_lawful-zero : (w : Wiring) (s : State) (q h : ℕ) (deed : HelpStep) → h ≡ 0 → ¬ Lawful w s (Help q h deed)
not_lawful-zero w s q h deed none lawful = let some : 0 < h = lawful.0.0 in omega (arith, some, none)

module _ (q h : ℕ) (deed d : HelpStep) (other : h ≢ 0) (is : deed ≡ d) where
  same_step : step_in q h d ≡ Help q h deed
  same_step = step_in-help q h d (omega (arith, other)) ∙ ap (λ (x : HelpStep). Help q h x) (sym is)

  pub help-done : (old new : Machine) (r : Result ℕ StepError) → IfOk r (λ (n : ℕ). IsDone old (step_in q h d) n new) → IfOk r (λ (n : ℕ). IsDone old (Help q h deed) n new)
  help-done old new r done = subst (λ (step : Step). IfOk r (λ (n : ℕ). IsDone old step n new)) same_step done

  pub help-refused : (old new : Machine) (r : Result ℕ StepError) → IfErr r (λ (e : StepError). IsRefusal old (step_in q h d) e × (new ≡ old)) → IfErr r (λ (e : StepError). IsRefusal old (Help q h deed) e × (new ≡ old))
  help-refused old new r refused = subst (λ (step : Step). IfErr r (λ (e : StepError). IsRefusal old step e × (new ≡ old))) same_step refused

  pub help-number : (m : Machine) (o : Option ℕ) → IsNumberOf m (step_in q h d) o → IsNumberOf m (Help q h deed) o
  help-number m o number = subst (λ (step : Step). IsNumberOf m step o) same_step number
