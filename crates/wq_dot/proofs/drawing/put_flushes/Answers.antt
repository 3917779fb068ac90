use Rattle.std.proofs.Common.{◌++◌, ℕ, List, map, ap, ◌∙◌, arith}
use Rattle.std.specs.Prelude.{slice_index_or}
use Rattle.std.proofs.lemmas.List.{take_all}
use Rattle.wq_items.specs.Table.{flush_count}
use Rattle.wq_graph.specs.declared.arc.WaitArc.{WaitArc}
use Rattle.wq_graph.specs.Graph.{arcs_by_place}
use Rattle.wq_groups.specs.DeclaredGroups.{Declared}
use Rattle.wq_dot.specs.declared.look.FlushLook.TheVariants.{Plain}
use Rattle.wq_dot.specs.Drawing.{arrow_line, ended, flush_line}
use Rattle.wq_dot.proofs.Arrows.{IsDrawable-at}
use Rattle.wq_dot.proofs.Lines.{text_of, text_of-line}
use Rattle.wq_dot.proofs.drawing.put_flushes.Goals as goal

pub bounds-looks-flush : goal.bounds-looks-flush
bounds-looks-flush g c =
    let drawable =
    IsDrawable-at c.declared.inside.table c.declared.inside.groups.group_of c.deref-flush-items.result.now
    c.loop-flush.flush-index c.flush-item.result c.in_ok-flushes.ensures.table
    (c.deref-flush-items.ensures.value ∙ c.in_ok-flushes.ensures.arcs) c.loop-flush-test.true c.flush-item.is in
    omega (arith, drawable.place, c.requires, ap (λ (s : Declared). flush_count s.table.waits) c.declared.view_is)

pub put_flush-requires-clause-item : goal.put_flush-requires-clause-item
put_flush-requires-clause-item g c = (
    IsDrawable-at c.declared.inside.table c.declared.inside.groups.group_of c.deref-flush-items.result.now
    c.loop-flush.flush-index c.flush-item.result c.in_ok-flushes.ensures.table
    (c.deref-flush-items.ensures.value ∙ c.in_ok-flushes.ensures.arcs) c.loop-flush-test.true c.flush-item.is
    ).item

pub put_flush-requires-clause-target : goal.put_flush-requires-clause-target
put_flush-requires-clause-target g c = (
    IsDrawable-at c.declared.inside.table c.declared.inside.groups.group_of c.deref-flush-items.result.now
    c.loop-flush.flush-index c.flush-item.result c.in_ok-flushes.ensures.table
    (c.deref-flush-items.ensures.value ∙ c.in_ok-flushes.ensures.arcs) c.loop-flush-test.true c.flush-item.is
    ).target

pub loop-flush-preserved : goal.loop-flush-preserved
loop-flush-preserved g c =
    let names = c.declared.inside.table.names in
    let waits = c.declared.inside.table.waits in
    let flush = c.flush-item.result in
    let look = slice_index_or c.args.looks.now flush.place Plain in
    text_of-line (flush_line names waits c.args.looks.now (map (λ v. v.now) c.args.comments.now)) c.args.out.now.items
    c.loop-flush.out.items _ c.deref-flush-items.result.now c.loop-flush.flush-index c.flush-item.result
    c.loop-flush-test.true c.flush-item.is c.loop-flush.invariant
    (c.in_ok-put_flush.ensures
    ∙ ap (λ (b : List ℕ). c.loop-flush.out.items ++ ended (arrow_line names waits look b flush)) c.comment_at.ensures)

pub returns : goal.returns
returns g c =
    let t = c.declared.inside.table in
    let looks = c.args.looks.now in
    let comments = map (λ v. v.now) c.args.comments.now in
    let out = c.args.out.now.items in
    let drawn = c.deref-flush-items.result.now in
    let arcs =
    take_all c.loop-flush.flush-index drawn (omega (arith, c.loop-flush-test.false, c.loop-flush.auto.flush-index-end))
    ∙ c.deref-flush-items.ensures.value ∙ c.in_ok-flushes.ensures.arcs in
    c.loop-flush.invariant
    ∙ ap (λ (l : List WaitArc). out ++ text_of (map (flush_line t.names t.waits looks comments) l)) arcs
    ∙ ap (λ (s : Declared). out ++ text_of (map (flush_line s.table.names s.table.waits looks comments)
    (arcs_by_place s.table.waits s.partition.group_of))) c.declared.view_is
