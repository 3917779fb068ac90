use Rattle.wq_items.proofs.ByKeyLemmas.{AreFound-none}
use Rattle.wq_items.proofs.names.Names.new.Goals as goal

pub invariant_of-result : goal.invariant_of-result
invariant_of-result g c =
    AreFound-none c.new-4.result c.new-3.result.items c.new.result.items c.new-2.result.items c.new-3.ensures.items
    c.new.ensures.items c.new-2.ensures.items
