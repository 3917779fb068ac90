use Rattle.std.proofs.Common.{◌≡◌, ◌++◌, [], ℕ, List, map, take, sym, ap, ◌∙◌, arith}
use Rattle.std.specs.Prelude.{codes}
use Rattle.std.proofs.lemmas.List.{take_all}
use Rattle.std.proofs.lemmas.Option.{get_or_from_slice_get}
use Rattle.std.proofs.lemmas.Result.{on_ok_weaker}
use Rattle.wq_cert.specs.PlanText.{name_of}
use Rattle.wq_dot.specs.Drawing.{member_line, ended}
use Rattle.wq_dot.proofs.Lines.{text_of, box_closed}
use Rattle.wq_dot.proofs.Pieces.{put_more, put_end, put_line}
use Rattle.wq_dot.proofs.group.put_ordered.Goals as goal

pub returns : goal.returns
returns g c =
    let names = c.args.table.now.names in
    let members = c.args.members.now in
    let out = c.args.out.now.items in
    let name = name_of names c.args.first in
    let name_is : c.name.result.now ≡ name = sym (get_or_from_slice_get names c.args.first c.name.result.now [] c.name.ensures) in
    let front = codes "    subgraph \"cluster ordered " in
    let back = codes "\" {" in
    let first : List ℕ = front ++ name ++ back in
    let opened = c.put-3.new.out.items in
    let label = codes "      graph [label=\"\", style=dashed, color=black]; \"ordered " in
    let looks = codes "\" [label=\"ordered\", shape=plaintext, style=\"\"];" in
    let name_again : c.name-2.result.now ≡ name = sym (get_or_from_slice_get names c.args.first c.name-2.result.now [] c.name-2.ensures) in
    let second : List ℕ = label ++ name ++ looks in
    let h2 = put_more out front _ name _ _ c.in_ok-put.ensures.added c.in_ok-put-2.ensures.added name_is in
    let h3 = put_end out (front ++ name) back _ _ h2 c.in_ok-put-3.ensures.added in
    let k2 = put_more opened label _ name _ _ c.in_ok-put-4.ensures.added c.in_ok-put-5.ensures.added name_again in
    let k3 = put_end opened (label ++ name) looks _ _ k2 c.in_ok-put-6.ensures.added in
    let h4 = put_line out (ended first) (ended second) _ _ h3 k3 in
    let all : take c.loop-item.item-index members ≡ members = take_all c.loop-item.item-index members (omega (arith, c.loop-item-test.false, c.loop-item.auto.item-index-end)) in
    let filled = c.loop-item.invariant ∙ ap (λ (is : List ℕ). c.put-6.new.out.items ++ text_of (map (member_line names) is)) all in
    on_ok_weaker c.put-7.result (λ e. box_closed out first second (codes "    }") (map (member_line names) members) _ _ _ h4 filled e) c.put-7.ensures.added
