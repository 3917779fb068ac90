use Rattle.std.proofs.Common.{rules, ◌≡◌, ℕ, List, ◌++◌, length, map, replicate, take, sym, ap, subst, ◌∙◌, arith}
use Rattle.std.proofs.lemmas.List.{length-map, length-replicate, get_or-map, take_all, with_items_is}
use Rattle.wq_items.specs.Table.{flush_count}
use Rattle.wq_dot.specs.declared.look.FlushLook.{FlushLook}
use Rattle.wq_dot.specs.declared.look.FlushLook.TheVariants.{Plain, Red}
use Rattle.wq_dot.specs.Flushes.{AreMarkable, all_arcs, with_marks}
use Rattle.wq_dot.proofs.Marked.{length-with_marks, with_marks-append, with_marks-is}
use Rattle.wq_dot.proofs.flushes.red_flushes.Goals as goal

pub mark-requires : goal.mark-requires
mark-requires g c =
    let n = flush_count c.args.table.now.waits in
    let i = c.loop-arcs.arcs-index in
    let item = c.arcs-item.result in
    let components = c.args.components.now in
    let made : c.in_ok-looks.looks.items ≡ replicate c.flushes.result Plain = c.in_ok-looks.ensures.items_if_clones_equal (λ y e. search rules) in
    let long : n ≡ length c.as_mut_slice.result.now =
    sym (
    ap (λ (l : List FlushLook). length l) (c.as_mut_slice.ensures.value ∙ c.loop-arcs.invariant)
    ∙ length-with_marks Red c.in_ok-looks.looks.items (all_arcs (map (λ v. v.items) (take i components)))
    ∙ ap (λ (l : List FlushLook). length l) made
    ∙ length-replicate c.flushes.result Plain
    ∙ c.flushes.ensures.count
    ) in
    let at = get_or-map (λ v. v.items) components i item item.items c.loop-arcs-test.true ∙ ap (λ v. v.items) (sym c.arcs-item.is) ∙ sym c.deref.ensures.value in
    subst (λ (m : ℕ). AreMarkable m c.deref.result.now) long
    (subst (AreMarkable n) at (c.requires.places i item.items (omega (arith, c.loop-arcs-test.true, length-map components (λ v. v.items)))))

pub mark-requires-2 : goal.mark-requires-2
mark-requires-2 g c =
    let n = flush_count c.args.table.now.waits in
    let components = c.args.components.now in
    let made : c.in_ok-looks.looks.items ≡ replicate c.flushes.result Plain = c.in_ok-looks.ensures.items_if_clones_equal (λ y e. search rules) in
    let long : n ≡ length c.as_mut_slice-2.result.now =
    sym (
    ap (λ (l : List FlushLook). length l) (c.as_mut_slice-2.ensures.value ∙ c.loop-arcs.invariant)
    ∙ length-with_marks Red c.in_ok-looks.looks.items (all_arcs (map (λ v. v.items) (take c.loop-arcs.arcs-index components)))
    ∙ ap (λ (l : List FlushLook). length l) made
    ∙ length-replicate c.flushes.result Plain
    ∙ c.flushes.ensures.count
    ) in
    subst (λ (m : ℕ). AreMarkable m c.args.waits.now) long c.requires.waits

pub returns : goal.returns
returns g c =
    let n = flush_count c.args.table.now.waits in
    let components = c.args.components.now in
    let arcs = all_arcs (map (λ v. v.items) components) in
    let made : c.in_ok-looks.looks.items ≡ replicate c.flushes.result Plain = c.in_ok-looks.ensures.items_if_clones_equal (λ y e. search rules) in
    let all = take_all c.loop-arcs.arcs-index components (omega (arith, c.loop-arcs-test.false, c.loop-arcs.auto.arcs-index-end)) in
    with_items_is c.loop-arcs.looks c.mark-2.new.looks (omega (arith, c.mark-2.auto.looks, c.as_mut_slice-2.ensures.len))
    ∙ c.mark-2.ensures
    ∙ ap (λ (l : List FlushLook). with_marks Red l c.args.waits.now) (
    c.as_mut_slice-2.ensures.value
    ∙ c.loop-arcs.invariant
    ∙ ap (λ l. with_marks Red c.in_ok-looks.looks.items (all_arcs (map (λ v. v.items) l))) all
    )
    ∙ sym (with_marks-append Red c.in_ok-looks.looks.items arcs c.args.waits.now)
    ∙ with_marks-is n Red c.in_ok-looks.looks.items (arcs ++ c.args.waits.now) (made ∙ ap (λ (m : ℕ). replicate m Plain) c.flushes.ensures.count)
