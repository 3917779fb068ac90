use Rattle.std.proofs.Common.{◌≡◌, [], get_or, sym, ◌∙◌, arith}
use Rattle.std.proofs.lemmas.Option.{get_or_from_slice_get}
use Rattle.std.proofs.lemmas.Slice.Eq.{bytes_eq-Decides}
use Rattle.wq_items.proofs.FlushLemmas.{item_named-at}
use Rattle.wq_items.proofs.table.ItemTable.is_named.Goals as goal

pub returns-then-get-len : goal.returns-then-get-len
returns-then-get-len g c =
    let names = c.args.self.now.names in
    λ same.
    let at : get_or names c.args.i [] ≡ c.name.result.now = get_or_from_slice_get names c.args.i c.name.result.now [] c.name.ensures in
    item_named-at names c.args.name.now c.args.i c.len.ensures.table.distinct (omega (arith, c.if-get-len.true, c.get.ensures, c.len.ensures.len))
    (at ∙ (bytes_eq-Decides c.name.result.now c.args.name.now).0 (sym c.are_same.ensures ∙ same))
