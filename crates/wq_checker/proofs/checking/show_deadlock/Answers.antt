use Rattle.std.proofs.Common.{◌≡◌, ◌↔◌, List, Option, Some, sym, ap, subst, ◌∙◌}
use Rattle.std.specs.Prelude.{IsTrue, IfOk, option_map}
use Rattle.wq_groups.specs.Declaration.{declaration_of}
use Rattle.wq_core.specs.declared.step.Step.{Step}
use Rattle.wq_checker.specs.Answers.{ShowsDeadlock}
use Rattle.wq_checker.proofs.checking.show_deadlock.Goals as goal

pub returns-in-Some-clause-shows : goal.returns-in-Some-clause-shows
returns-in-Some-clause-shows g c =
    let d = declaration_of c.args.table.now c.args.groups.now in
    let same : Some c.as_slice.result.now ≡ option_map (λ s. s.items) c.args.steps.now = ap (λ (l : List Step). Some l) c.as_slice.ensures.value ∙ sym (ap (option_map (λ s. s.items)) c.in-Some.is) in
    subst (λ (o : Option (List Step)). IfOk c.deadlocks.result (λ b. IsTrue b ↔ ShowsDeadlock d o)) same c.deadlocks.ensures
