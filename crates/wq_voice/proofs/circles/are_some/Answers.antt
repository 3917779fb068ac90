use Rattle.std.proofs.Common.{sym, ap, ◌∙◌}
use Rattle.std.specs.Prelude.{not}
use Rattle.wq_voice.proofs.Circled.{are_some-components, are_some-waits}
use Rattle.wq_voice.proofs.circles.are_some.Goals as goal

pub returns-then-is_empty : goal.returns-then-is_empty
returns-then-is_empty g c =
    ap not c.is_empty-then-is_empty.ensures
    ∙ sym (are_some-waits (λ l. l.items) c.args.components.now c.args.waits.now
    (sym c.is_empty.ensures ∙ c.if-is_empty.true))

pub returns : goal.returns
returns g c =
    sym (are_some-components (λ l. l.items) c.args.components.now c.args.waits.now
    (sym c.is_empty.ensures ∙ c.if-is_empty.false))
