use Rattle.std.proofs.Common.{ℕ, List, ap, ◌∙◌}
use Rattle.std.specs.Prelude.{option_map}
use Rattle.std.proofs.lemmas.Result.{IfOk-weaker}
use Rattle.wq_voice.specs.Unsure.{above}
use Rattle.wq_voice.proofs.safe.say_safe_groups.Goals as goal

pub returns : goal.returns
returns g c =
    let rest = option_map (λ v. v.items) c.in_ok-said.said in
    IfOk-weaker c.above.result _ _ (λ both is. (
      rest,
      c.in_ok-said.ensures,
      is ∙ ap (λ (note : List ℕ). above note rest) c.in_ok-note.ensures,
    )) c.above.ensures
