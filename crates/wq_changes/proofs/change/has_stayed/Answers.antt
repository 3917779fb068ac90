use Rattle.std.proofs.Common.{sym, ap, ◌∙◌}
use Rattle.wq_changes.specs.Changes.{stays_on}
use Rattle.wq_changes.proofs.Ranges.{none_passes, some_passes}
use Rattle.wq_changes.proofs.change.has_stayed.Goals as goal

pub loop-number-preserved : goal.loop-number-preserved
loop-number-preserved g c =
    let p = stays_on c.args.old.now c.args.new.now c.args.lane in
    none_passes p c.loop-number.number c.loop-number.invariant (sym (c.stays_on.ensures ∙ ap p c.new.ensures) ∙ c.if-stays_on.false)

pub returns-then-stays_on : goal.returns-then-stays_on
returns-then-stays_on g c =
    let p = stays_on c.args.old.now c.args.new.now c.args.lane in
    sym (some_passes p c.args.groups c.loop-number.number c.loop-number-test.true (sym (c.stays_on.ensures ∙ ap p c.new.ensures) ∙ c.if-stays_on.true))
