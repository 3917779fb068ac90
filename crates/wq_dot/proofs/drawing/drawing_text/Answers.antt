use Rattle.std.proofs.Common.{◌++◌, ℕ, List, map, sym, ap, ◌∙◌}
use Rattle.std.specs.Prelude.{codes, flat_map}
use Rattle.std.specs.List.{range_with_len}
use Rattle.wq_items.specs.Table.{flush_count}
use Rattle.wq_graph.specs.Graph.{arcs_by_place}
use Rattle.wq_core.specs.Assigned.{Assigned}
use Rattle.wq_dot.specs.Drawing.{flush_line, head_lines, workqueue_box_lines}
use Rattle.wq_dot.proofs.Lines.{text_of, text_of-whole}
use Rattle.wq_dot.proofs.drawing.drawing_text.Goals as goal

pub put_flushes-requires : goal.put_flushes-requires
put_flushes-requires g c =
    c.requires.looks ∙ sym (ap (λ (a : Assigned). flush_count a.declared.table.waits) c.assigned.view_is)

pub returns : goal.returns
returns g c =
    let s = c.args.assigned.now.declared in
    let ws = c.args.assigned.now.workqueues in
    let looks = c.args.looks.now in
    let comments = map (λ v. v.now) c.args.comments.now in
    let workqueues =
    flat_map (workqueue_box_lines s.table.names s.partition.group_of ws (map (λ v. v.now) c.args.called.now))
    (range_with_len 0 ws.assignment.lanes) in
    let head =
    c.in_ok-put_head.ensures
    ∙ ap (λ (o : List ℕ). o ++ text_of (head_lines c.args.title.now)) c.new-out.ensures.items in
    let flushes =
    c.in_ok-put_flushes.ensures
    ∙ ap (λ (a : Assigned). c.put_workqueues.new.out.items ++ text_of (map (flush_line a.declared.table.names
    a.declared.table.waits looks comments) (arcs_by_place a.declared.table.waits a.declared.partition.group_of)))
    c.assigned.view_is in
    text_of-whole (head_lines c.args.title.now) workqueues
    (map (flush_line s.table.names s.table.waits looks comments) (arcs_by_place s.table.waits s.partition.group_of))
    (codes "}") _ _ _ _ head c.in_ok-put_workqueues.ensures flushes c.in_ok-put.ensures.added
