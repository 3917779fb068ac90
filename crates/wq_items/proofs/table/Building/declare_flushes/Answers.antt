use Rattle.std.proofs.Common.{◌≡◌, ◌+◌, ◌++◌, ℕ, List, Some, length, sym, ap, subst, ◌∙◌}
use Rattle.std.specs.Prelude.{IfSome, slice_set, option_map}
use Rattle.wq_items.specs.Table.{Table, item_named, flush_count, targets_of}
use Rattle.wq_items.specs.Building.{of_item, items_named, targets_from}
use Rattle.wq_items.proofs.TableLemmas.{item_named-below}
use Rattle.wq_items.proofs.GrownTables.{IsTable-flushes_added}
use Rattle.wq_items.proofs.table.Building.declare_flushes.Goals as goal

pub invariant_of-result : goal.invariant_of-result
invariant_of-result g c =
    let s = c.self.inside in
    let item = c.in-Some.item in
    let targets = c.again.result in
    let next = c.in-Some-push_targets.flushes in
    let t : Table = record { names = s.names; spans = s.spans.items; waits = s.waits } in
    let found : item_named s.names c.args.name.bytes ≡ Some item = ap (item_named s.names) (sym c.bytes.ensures)
    ∙ sym c.in-Some.ensures in
    let known : option_map (λ (items : List ℕ). flush_count s.waits + length items) (items_named s.names targets) ≡ Some
    next =
    subst (λ (first : ℕ). option_map (λ (items : List ℕ). first + length items) (items_named s.names targets) ≡ Some
    next) c.self.invariant.1 c.in-Some-push_targets.ensures.next in
    let grown : IfSome (items_named s.names targets) (λ items. c.push_targets.new.waits ≡ slice_set s.waits item
    (targets_of s.waits item ++ targets_from of_item (flush_count s.waits) items)) =
    subst (λ (first : ℕ). IfSome (items_named s.names targets)
    (λ items. c.push_targets.new.waits ≡ slice_set s.waits item
    (targets_of s.waits item ++ targets_from of_item first items)))
    c.self.invariant.1 c.in-Some-push_targets.ensures.added in
    IsTable-flushes_added t of_item item targets next c.push_targets.new.waits c.self.invariant.0
    (item_named-below s.names c.args.name.bytes item found) known c.in-Some-push_targets.ensures.room grown
