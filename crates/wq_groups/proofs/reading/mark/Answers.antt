use Rattle.std.proofs.Common.{◌≡◌, [], inl, inr, true, false, get_or, List, Some, refl, sym, subst, ◌∙◌, arith, rules}
use Rattle.wq_text.specs.Words.{WordView}
use Rattle.wq_items.specs.Table.{item_named}
use Rattle.wq_items.proofs.TableLemmas.{item_named-below}
use Rattle.wq_groups.proofs.MarkLemmas.{Marked, Marked-none, Marked-room, Marked-more, Marked-twice, Marked-all, found_item}
use Rattle.wq_groups.proofs.reading.mark.Goals as goal

pub loop-word-init : goal.loop-word-init
loop-word-init g c =
    subst (λ (ws : List WordView). Marked c.args.table.now.names c.args.ordered.now c.args.ordered.now c.args.items.now.items c.len-lowest.result ws c.args.names) (sym c.into_iter-word-iterator.ensures.into_iter_gives)
    (Marked-none c.args.table.now.names c.args.ordered.now c.args.items.now.items c.len-lowest.result c.args.names c.requires.marks c.requires.empty c.requires.known c.len-lowest.ensures.len)

pub returns-then-is_marked-clause-apart : goal.returns-then-is_marked-clause-apart
returns-then-is_marked-clause-apart g c =
    let names = c.args.table.now.names in
    let found : item_named names c.in-Some.word.bytes ≡ Some c.from-i.result =
    found_item names c.in-Some.word.bytes c.bytes.result.now c.find_guessed.result c.unwrap-found.result c.get-item.result c.from-i.result c.bytes.ensures c.find_guessed.ensures c.unwrap-found.ensures c.get-item.ensures c.from-i.ensures in
    let so_far = subst (λ (ws : List WordView). Marked names c.args.ordered.now c.loop-word.ordered c.loop-word.items.items c.loop-word.lowest ws c.args.names) c.in-Some.ensures.steps c.loop-word.invariant in
    let marked : get_or c.loop-word.ordered c.from-i.result false ≡ true = c.if-is_marked.true in
    λ before is apart. (
      λ none. absurd cc none,
      λ differ. absurd (Marked-twice names c.args.ordered.now c.loop-word.ordered c.loop-word.items.items c.loop-word.lowest c.in-Some.word c.next.new.self c.args.names c.from-i.result found marked so_far before is differ),
    )

pub push-requires : goal.push-requires
push-requires g c =
    let names = c.args.table.now.names in
    let found : item_named names c.in-Some.word.bytes ≡ Some c.from-i.result =
    found_item names c.in-Some.word.bytes c.bytes.result.now c.find_guessed.result c.unwrap-found.result c.get-item.result c.from-i.result c.bytes.ensures c.find_guessed.ensures c.unwrap-found.ensures c.get-item.ensures c.from-i.ensures in
    omega (
      arith,
      c.requires.table.few_items,
      Marked-room names c.args.ordered.now c.loop-word.ordered c.loop-word.items.items c.loop-word.lowest c.loop-word.word-iterator c.args.names c.from-i.result
          (item_named-below names c.in-Some.word.bytes c.from-i.result found) c.if-is_marked.false c.loop-word.invariant,
    )

pub loop-word-preserved-then-item-lowest : goal.loop-word-preserved-then-item-lowest
loop-word-preserved-then-item-lowest g c =
    let names = c.args.table.now.names in
    let found : item_named names c.in-Some.word.bytes ≡ Some c.from-i.result =
    found_item names c.in-Some.word.bytes c.bytes.result.now c.find_guessed.result c.unwrap-found.result c.get-item.result c.from-i.result c.bytes.ensures c.find_guessed.ensures c.unwrap-found.ensures c.get-item.ensures c.from-i.ensures in
    let so_far = subst (λ (ws : List WordView). Marked names c.args.ordered.now c.loop-word.ordered c.loop-word.items.items c.loop-word.lowest ws c.args.names) c.in-Some.ensures.steps c.loop-word.invariant in
    let fresh : get_or c.loop-word.ordered c.from-i.result false ≡ false = c.if-is_marked.false in
    Marked-more names c.args.ordered.now c.loop-word.ordered c.loop-word.items.items c.push.new.self.items c.loop-word.lowest c.get-item.result c.in-Some.word c.next.new.self c.args.names c.from-i.result c.unwrap-found.result c.requires.table.distinct found fresh
    (sym c.get-item.ensures ∙ sym c.from-i.ensures) c.push.ensures.items
    (omega (arith, c.from-i.ensures)) (omega (arith, c.if-item-lowest.true)) (inl (sym c.from-i.ensures)) so_far

pub loop-word-preserved : goal.loop-word-preserved
loop-word-preserved g c =
    let names = c.args.table.now.names in
    let found : item_named names c.in-Some.word.bytes ≡ Some c.from-i.result =
    found_item names c.in-Some.word.bytes c.bytes.result.now c.find_guessed.result c.unwrap-found.result c.get-item.result c.from-i.result c.bytes.ensures c.find_guessed.ensures c.unwrap-found.ensures c.get-item.ensures c.from-i.ensures in
    let so_far = subst (λ (ws : List WordView). Marked names c.args.ordered.now c.loop-word.ordered c.loop-word.items.items c.loop-word.lowest ws c.args.names) c.in-Some.ensures.steps c.loop-word.invariant in
    let fresh : get_or c.loop-word.ordered c.from-i.result false ≡ false = c.if-is_marked.false in
    Marked-more names c.args.ordered.now c.loop-word.ordered c.loop-word.items.items c.push.new.self.items c.loop-word.lowest c.loop-word.lowest c.in-Some.word c.next.new.self c.args.names c.from-i.result c.unwrap-found.result c.requires.table.distinct found fresh
    (sym c.get-item.ensures ∙ sym c.from-i.ensures) c.push.ensures.items
    (omega (arith, c.from-i.ensures, c.if-item-lowest.false)) (omega arith) (inr refl) so_far

pub returns-clause-items : goal.returns-clause-items
returns-clause-items g c =
    let none : c.loop-word.word-iterator ≡ [] = search rules in
    Marked-all c.args.table.now.names c.args.ordered.now c.loop-word.ordered c.loop-word.items.items c.loop-word.lowest c.loop-word.word-iterator c.args.names none c.loop-word.invariant
