use Rattle.std.proofs.Common.{map}
use Rattle.std.proofs.lemmas.Result.{IfOk-weaker}
use Rattle.wq_voice.proofs.held.of_named.Goals as goal

pub returns : goal.returns
returns g c =
    let held = c.in_ok-held.held in
    IfOk-weaker c.of_held.result _ _ (λ note is. (
      map (λ l. l.items) held.components.items,
      held.waits.items,
      held.ways.items,
      c.in_ok-held.ensures,
      is,
    )) c.of_held.ensures
