use Rattle.std.proofs.Common.{ℕ, List, ◌++◌, length, map, sym, ap, subst, ◌∙◌, arith}
use Rattle.std.proofs.lemmas.List.{with_items_is}
use Rattle.std.proofs.lemmas.List.FromFn.{length-map-range_with_len}
use Rattle.wq_items.specs.Table.{flush_count}
use Rattle.wq_dot.specs.declared.look.FlushLook.{FlushLook}
use Rattle.wq_dot.specs.declared.look.FlushLook.TheVariants.{Red}
use Rattle.wq_dot.specs.Flushes.{AreFlushes, all_arcs, look_at, with_bold_red}
use Rattle.wq_dot.proofs.Marked.{with_bold_red-is}
use Rattle.wq_dot.proofs.flushes.hanging_flushes.Goals as goal

pub mark_bold_red-requires : goal.mark_bold_red-requires
mark_bold_red-requires g c =
    let n = flush_count c.args.table.now.waits in
    let arcs = all_arcs (map (λ v. v.items) c.args.components.now) ++ c.args.waits.now in
    let long = ap (λ (l : List FlushLook). length l) (c.as_mut_slice.ensures.value ∙ c.in_ok-looks.ensures) ∙ length-map-range_with_len (look_at Red arcs) 0 n in
    subst (λ (m : ℕ). AreFlushes m c.args.hops.now) (sym long) c.requires.hops

pub returns : goal.returns
returns g c =
    let n = flush_count c.args.table.now.waits in
    let arcs = all_arcs (map (λ v. v.items) c.args.components.now) ++ c.args.waits.now in
    with_items_is c.in_ok-looks.looks c.mark_bold_red.new.looks (omega (arith, c.mark_bold_red.auto.looks, c.as_mut_slice.ensures.len))
    ∙ c.mark_bold_red.ensures
    ∙ ap (λ (l : List FlushLook). with_bold_red l c.args.hops.now) c.as_mut_slice.ensures.value
    ∙ with_bold_red-is n c.in_ok-looks.looks.items arcs c.args.hops.now c.in_ok-looks.ensures
