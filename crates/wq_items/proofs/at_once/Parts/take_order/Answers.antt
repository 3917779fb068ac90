use Rattle.std.proofs.Common.{◌≡◌, Some, length, rules}
use Rattle.std.specs.Prelude.{option_map}
use Rattle.wq_items.specs.Building.{items_named}
use Rattle.wq_items.proofs.AtOnceLemmas.{whole_counted}
use Rattle.wq_items.proofs.at_once.Parts.take_order.Goals as goal

pub returns-clause-whole : goal.returns-clause-whole
returns-clause-whole g c =
    let t = c.args.self.now in
    let count = c.in_ok-note_known.field-0 in
    let counted : Some count ≡ option_map length (items_named t.names c.args.names) = search rules in
    whole_counted t c.requires c.args.names count counted c.if-branch-eq0.false
