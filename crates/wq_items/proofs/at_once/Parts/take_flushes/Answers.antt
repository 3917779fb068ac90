use Rattle.std.proofs.Common.{◌≡◌, ◌+◌, ℕ, List, Some, length, rules}
use Rattle.std.specs.Prelude.{option_map}
use Rattle.wq_items.specs.Table.{item_named}
use Rattle.wq_items.specs.Building.{items_named}
use Rattle.wq_items.proofs.AtOnceLemmas.{whole_flushes}
use Rattle.wq_items.proofs.at_once.Parts.take_flushes.Goals as goal

pub returns-clause-whole : goal.returns-clause-whole
returns-clause-whole g c =
    let t = c.args.self.now in
    let name = c.args.name in
    let targets = c.args.targets in
    let item = c.in_ok-item.item in
    let next = c.in_ok-next.next in
    let found : item_named t.names name.bytes ≡ Some item = search rules in
    let known : option_map (λ (items : List ℕ). c.len-first.result + length items) (items_named t.names targets) ≡ Some next = search rules in
    whole_flushes t c.requires name targets item c.len-first.result next found known c.if-next-first.false
