use Rattle.std.proofs.Common.{◌≡◌, Bool, true, false, sym, ap, ◌∙◌}
use Rattle.std.specs.Prelude.{not}
use Rattle.wq_items.specs.Table.{Table}
use Rattle.wq_graph.specs.declared.arc.WaitArc.{WaitArc}
use Rattle.wq_voice.specs.Components.{is_unsure}
use Rattle.wq_voice.proofs.Rounded.{found-here, none-next}
use Rattle.wq_voice.proofs.circles.first_sure.Goals as goal

pub returns-then-not-is_unsure : goal.returns-then-not-is_unsure
returns-then-not-is_unsure g c =
    let waits = c.args.assigned.now.declared.table.waits in
    let sure : WaitArc → Bool = λ a. not (is_unsure waits a.src a.place) in
    let arc : WaitArc = c.arc-item.result in
    let passes : sure arc ≡ true =
    ap not
    (sym (c.is_unsure.ensures ∙ ap (λ (t : Table). is_unsure t.waits arc.src arc.place) c.table.ensures.is)
    ∙ c.if-not-is_unsure.true) in
    found-here sure c.args.waits.now c.loop-arc.arc-index arc c.loop-arc-test.true c.arc-item.is c.loop-arc.invariant
    passes

pub loop-arc-preserved : goal.loop-arc-preserved
loop-arc-preserved g c =
    let waits = c.args.assigned.now.declared.table.waits in
    let sure : WaitArc → Bool = λ a. not (is_unsure waits a.src a.place) in
    let arc : WaitArc = c.arc-item.result in
    let fails : sure arc ≡ false =
    ap not
    (sym (c.is_unsure.ensures ∙ ap (λ (t : Table). is_unsure t.waits arc.src arc.place) c.table.ensures.is)
    ∙ c.if-not-is_unsure.false) in
    none-next sure c.args.waits.now c.loop-arc.arc-index arc c.loop-arc-test.true c.arc-item.is c.loop-arc.invariant
    fails
