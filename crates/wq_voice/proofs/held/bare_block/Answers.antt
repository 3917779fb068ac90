use Rattle.std.proofs.Common.{ℕ, List, map, subst, ◌∙◌}
use Rattle.std.proofs.lemmas.Result.{IfOk-weaker}
use Rattle.wq_voice.specs.Reasons.{IsSaidOf}
use Rattle.wq_voice.proofs.held.bare_block.Goals as goal

pub returns : goal.returns
returns g c =
    let file = c.args.subject.now.assignment.file.now in
    IfOk-weaker c.said_at.result _ _ (λ said is.
    subst (λ (what : List ℕ). IsSaidOf file what said.items) (c.deref.ensures.value ∙ c.in_ok-what.ensures) is)
    c.said_at.ensures
