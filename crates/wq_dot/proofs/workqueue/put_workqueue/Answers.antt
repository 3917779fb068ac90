use Rattle.std.proofs.Common.{◌≡◌, ◌<◌, ◌++◌, ℕ, List, length, get_or, sym, ap, subst, ◌∙◌, arith}
use Rattle.std.specs.Prelude.{codes, decimal, flat_map}
use Rattle.std.specs.List.{All}
use Rattle.std.proofs.lemmas.List.{get_or_default}
use Rattle.std.proofs.lemmas.Result.{on_ok_weaker}
use Rattle.wq_text.specs.LineText.{spaced}
use Rattle.wq_items.specs.Table.{items_at}
use Rattle.wq_groups.specs.DeclaredGroups.{Declared}
use Rattle.wq_dot.specs.Drawing.{box_lines, ended, frame_line, group_lines}
use Rattle.wq_dot.proofs.Lines.{text_of, text_of-next, text_of-all, box_closed}
use Rattle.wq_dot.proofs.Pieces.{put_more, put_end, put_line}
use Rattle.wq_dot.proofs.Workqueues.{items_at-below}
use Rattle.wq_dot.proofs.workqueue.put_workqueue.Goals as goal

pub put_group-requires : goal.put_group-requires
put_group-requires g c =
    let n = length c.declared.inside.table.names in
    subst (λ (is : List ℕ). All (λ i. i < n) is) (sym c.members.ensures)
    (items_at-below c.declared.inside.groups.group_of n c.new.result c.declared.invariant.one_group_each)

pub loop-group-preserved : goal.loop-group-preserved
loop-group-preserved g c =
    let names = c.declared.inside.table.names in
    let group_of = c.declared.inside.groups.group_of in
    let lines : ℕ → List (List ℕ) = λ k. group_lines names (items_at group_of k) in
    let group : c.new.result ≡ get_or c.args.own.now c.loop-group.group-index c.new.result =
    c.new.ensures ∙ get_or_default c.args.own.now c.loop-group.group-index 0 c.new.result c.loop-group-test.true in
    text_of-next lines c.put_frame.new.out.items c.loop-group.out.items _ c.args.own.now c.loop-group.group-index c.new.result c.loop-group-test.true group c.loop-group.invariant
    (c.in_ok-put_group.ensures ∙ ap (λ (is : List ℕ). c.loop-group.out.items ++ text_of (group_lines names is)) c.members.ensures)

pub returns : goal.returns
returns g c =
    let names = c.declared.inside.table.names in
    let group_of = c.declared.inside.groups.group_of in
    let own = c.args.own.now in
    let out = c.args.out.now.items in
    let digits = decimal c.args.number in
    let lines : ℕ → List (List ℕ) = λ k. group_lines names (items_at group_of k) in
    let first : List ℕ = codes "  subgraph \"cluster wq " ++ digits ++ codes "\" {" in
    let second : List ℕ = frame_line c.args.name.now c.args.shared c.args.bare c.args.number in
    let h2 = put_more out (codes "  subgraph \"cluster wq") _ (spaced digits) _ _ c.in_ok-put.ensures.added c.in_ok-put_number.ensures.added (ap (λ (n : ℕ). spaced (decimal n)) c.from.ensures) in
    let h3 = put_end out (codes "  subgraph \"cluster wq" ++ spaced digits) (codes "\" {") _ _ h2 c.in_ok-put-2.ensures.added in
    let h4 : c.put_frame.new.out.items ≡ out ++ (ended first ++ ended second) = put_line out (ended first) (ended second) _ _ h3 c.in_ok-put_frame.ensures in
    let filled = text_of-all lines c.put_frame.new.out.items c.loop-group.out.items own c.loop-group.group-index (omega (arith, c.loop-group-test.false, c.loop-group.auto.group-index-end)) c.loop-group.invariant in
    let same =
    ap (λ (s : Declared). out ++ text_of (box_lines s.table.names s.partition.group_of c.args.name.now c.args.shared
    c.args.bare c.args.number own)) c.declared.view_is in
    on_ok_weaker c.put-3.result
    (λ e. box_closed out first second (codes "  }") (flat_map lines own) _ _ _ h4 filled e ∙ same) c.put-3.ensures.added
