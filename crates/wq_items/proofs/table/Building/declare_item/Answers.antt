use Rattle.std.proofs.Common.{◌≡◌, ◌<◌, ◌∷◌, [], ◌++◌, None, length, ap, ◌∙◌, arith, rules}
use Rattle.wq_text.specs.declared.span.Span.{Span}
use Rattle.wq_items.specs.Building.{span_of}
use Rattle.wq_items.specs.Table.{Table, item_named}
use Rattle.wq_items.proofs.GrownTables.{IsTable-item_added, span_is}
use Rattle.wq_items.proofs.table.Building.declare_item.Goals as goal

pub invariant_of-result : goal.invariant_of-result
invariant_of-result g c =
    let s = c.self.inside in
    let name = c.args.name in
    let t : Table = record { names = s.names; spans = s.spans.items; waits = s.waits } in
    let absent : item_named s.names name.bytes ≡ None = search rules in
    let room : length s.names < 4096 = omega (arith, c.len.ensures, c.if-len-ge-MAX_ITEMS.false) in
    let names : c.add.new.self ≡ s.names ++ (name.bytes ∷ []) = search rules in
    let spans : c.push.new.self.items ≡ s.spans.items ++ (span_of name ∷ []) =
    c.in_ok-push.ensures.items ∙ ap (λ (x : Span). s.spans.items ++ (x ∷ [])) (span_is c.span.result name c.span.ensures.start c.span.ensures.end) in
    let both = IsTable-item_added t name c.add.new.self c.push.new.self.items c.push_item.new.self c.self.invariant.0 absent room c.requires names spans c.push_item.ensures in
    (both.0, c.self.invariant.1 ∙ both.1)
