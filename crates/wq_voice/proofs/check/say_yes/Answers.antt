use Rattle.std.specs.Prelude.{option_map}
use Rattle.std.proofs.lemmas.Result.{IfOk-weaker}
use Rattle.wq_voice.proofs.check.say_yes.Goals as goal

pub returns : goal.returns
returns g c =
    IfOk-weaker c.above.result _ _ (λ both is. (
      option_map (λ v. v.items) c.in_ok-said.said,
      c.in_ok-note.note.items,
      c.in_ok-said.ensures,
      c.in_ok-note.ensures,
      is,
    )) c.above.ensures
