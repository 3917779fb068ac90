use Rattle.std.proofs.Common.{[], ◌∷◌, length, sym, ap, subst, ◌∙◌, arith}
use Rattle.std.proofs.lemmas.List.{length-append}
use Rattle.wq_history.specs.declared.sleepers.Sleepers.TheVariants.{ItemWaiters}
use Rattle.wq_api.specs.Locking.{AreOfItems}
use Rattle.wq_api.proofs.LaneBells.{of_items_push}
use Rattle.wq_api.proofs.condvars.for_items.Goals as goal

pub loop-i-preserved : goal.loop-i-preserved
loop-i-preserved g c =
    let before = c.loop-i.items.items in
    let more = length-append before (c.new-bell.result ∷ []) in (
      omega (arith, c.push_reserved.ensures.len, c.loop-i.invariant.0),
      omega (arith, c.push_reserved.ensures.capacity, c.loop-i.invariant.1),
      omega (arith, ap length c.push_reserved.ensures.items, more, c.loop-i.invariant.2),
      subst (AreOfItems (λ x. x.of)) (sym c.push_reserved.ensures.items)
          (of_items_push (λ x. x.of) before _ c.loop-i.i (sym c.loop-i.invariant.2) c.loop-i.invariant.3
          (c.new-bell.ensures ∙ ap ItemWaiters c.new-item.ensures)),
    )
