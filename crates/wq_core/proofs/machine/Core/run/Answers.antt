use Rattle.std.proofs.Common.{List, [], ◌∷◌, ◌++◌, take, sym, ◌∙◌, subst, ap, arith}
use Rattle.std.proofs.lemmas.List.{take_more}
use Rattle.wq_core.specs.declared.step.Step.{Step}
use Rattle.wq_core.specs.Held.{AreDone}
use Rattle.wq_core.proofs.RunLemmas.{AreDone-more}
use Rattle.wq_core.proofs.machine.Core.run.Goals as goal

pub loop-step-preserved : goal.loop-step-preserved
loop-step-preserved g c =
    let before : List Step = take c.loop-step.step-index c.args.steps.now in
    let done = AreDone-more c.args.self.now c.loop-step.self c.step.new.self before c.step-item.result c.in_default.field-0 c.loop-step.invariant.0 c.in_default.ensures.done in
    (subst (λ (l : List Step). AreDone c.args.self.now l c.step.new.self) (ap (λ (x : Step). before ++ (x ∷ [])) c.step-item.is ∙ sym (take_more c.args.steps.now c.loop-step.step-index c.step-item.result c.loop-step-test.true)) done, omega (arith, c.loop-step.invariant.1))
