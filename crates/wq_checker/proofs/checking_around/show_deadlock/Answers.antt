use Rattle.std.proofs.Common.{◌≡◌, ◌↔◌, List, Option, Some, sym, ap, subst, ◌∙◌}
use Rattle.std.specs.Prelude.{IsTrue, IfOk, option_map}
use Rattle.wq_groups.specs.DeclaredGroups.{declared_waits}
use Rattle.wq_core.specs.declared.step.Step.{Step}
use Rattle.wq_core.specs.Workqueues.{wiring_of}
use Rattle.wq_checker.specs.Around.{ShowsDeadlockIn}
use Rattle.wq_checker.proofs.checking_around.show_deadlock.Goals as goal

pub returns-in-Some : goal.returns-in-Some
returns-in-Some g c =
    let w = wiring_of (declared_waits c.args.start.now.declared) c.args.start.now.workqueues in
    let same : Some c.as_slice.result.now ≡ option_map (λ s. s.items) c.args.steps.now =
    ap (λ (l : List Step). Some l) c.as_slice.ensures.value ∙ sym (ap (option_map (λ s. s.items)) c.in-Some.is) in
    subst (λ (o : Option (List Step)). IfOk c.deadlocks.result (λ b. IsTrue b ↔ ShowsDeadlockIn w o)) same
    c.deadlocks.ensures
