use Rattle.std.proofs.Common.{◌++◌, ◌∷◌, [], List, length, sym, ap, ◌∙◌, arith}
use Rattle.wq_items.specs.declared.target.Target.{Target}
use Rattle.wq_items.specs.Table.{flush_count}
use Rattle.wq_items.specs.Waits.{waits_of}
use Rattle.wq_items.proofs.WaitLemmas.{length-waits_of, waits_of-more, below-more, count-more}
use Rattle.wq_items.proofs.flush.Flushes.push_item.Goals as goal

pub overflow_add-self : goal.overflow_add-self
overflow_add-self g c = omega (arith, c.requires, ap length c.self.view_is, length-waits_of c.self.inside.flushes.items c.self.inside.items)

pub invariant_of-self : goal.invariant_of-self
invariant_of-self g c =
    let s = c.self.inside in
    let waits : List (List Target) = waits_of s.flushes.items s.items in (
      below-more s.flushes.items s.items c.self.invariant.0,
      c.self.invariant.1 ∙ sym (count-more waits) ∙ sym (ap flush_count (waits_of-more s.flushes.items s.items c.self.invariant.0)),
    )

pub returns : goal.returns
returns g c =
    let s = c.self.inside in
    waits_of-more s.flushes.items s.items c.self.invariant.0 ∙ ap (λ (w : List (List Target)). w ++ ([] ∷ [])) c.self.view_is
