use Rattle.std.proofs.Common.{ℕ, List, ap, ◌∙◌}
use Rattle.std.specs.Prelude.{option_map}
use Rattle.std.proofs.lemmas.Result.{IfOk-weaker}
use Rattle.wq_core.specs.Assigned.{Assigned}
use Rattle.wq_voice.specs.Unsure.{above, safe_note}
use Rattle.wq_voice.proofs.safe.say_safe.Goals as goal

pub returns : goal.returns
returns g c =
    let rest = option_map (λ v. v.items) c.in_ok-said.said in
    IfOk-weaker c.above.result _ _ (λ both is. (
      rest,
      c.in_ok-said.ensures,
      is ∙ ap (λ (note : List ℕ). above note rest) c.in_ok-note.ensures
          ∙ ap (λ (a : Assigned). above (safe_note c.args.file.now a.declared) rest) c.assigned.view_is,
    )) c.above.ensures
