use Rattle.std.proofs.Common.{rules, ◌≡◌, ℕ, List, replicate, ap, ◌∙◌, arith}
use Rattle.std.proofs.lemmas.List.{with_items_is}
use Rattle.wq_items.specs.Table.{flush_count}
use Rattle.wq_dot.specs.declared.look.FlushLook.{FlushLook}
use Rattle.wq_dot.specs.declared.look.FlushLook.TheVariants.{Plain, Bold}
use Rattle.wq_dot.specs.Flushes.{with_marks}
use Rattle.wq_dot.proofs.Marked.{with_marks-is}
use Rattle.wq_dot.proofs.flushes.bold_flushes.Goals as goal

pub returns : goal.returns
returns g c =
    let n = flush_count c.args.table.now.waits in
    let made : c.in_ok-looks.looks.items ≡ replicate c.flushes.result Plain = c.in_ok-looks.ensures.items_if_clones_equal (λ y e. search rules) in
    with_items_is c.in_ok-looks.looks c.mark.new.looks (omega (arith, c.mark.auto.looks, c.as_mut_slice.ensures.len))
    ∙ c.mark.ensures
    ∙ ap (λ (l : List FlushLook). with_marks Bold l c.args.chain.now) c.as_mut_slice.ensures.value
    ∙ with_marks-is n Bold c.in_ok-looks.looks.items c.args.chain.now (made ∙ ap (λ (m : ℕ). replicate m Plain) c.flushes.ensures.count)
