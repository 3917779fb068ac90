use Rattle.std.proofs.Common.{◌≡◌, false, ◌∷◌, [], ◌++◌, ℕ, List, Some, sym, ap, subst, ◌∙◌, rules, arith}
use Rattle.std.specs.Prelude.{slice_set}
use Rattle.wq_text.specs.Words.{WordView}
use Rattle.wq_items.specs.Table.{item_named, targets_of}
use Rattle.wq_items.proofs.TargetLemmas.{Added, Added-none, Added-more}
use Rattle.wq_items.proofs.table.push_targets.Goals as goal

pub loop-word-init : goal.loop-word-init
loop-word-init g c = (
  Added-none c.args.names.now c.args.waits.now c.args.item c.args.place
      c.into_iter-word-iterator.result c.args.targets c.into_iter-word-iterator.ensures.into_iter_gives,
  c.requires.room,
)

pub loop-word-preserved : goal.loop-word-preserved
loop-word-preserved g c =
    let names = c.args.names.now in
    let word = c.in-Some.word in
    let rest = c.next.new.self in
    let old = c.loop-word.waits in
    let found : item_named names word.bytes ≡ Some c.new.result =
    ap (item_named names) (sym c.bytes.ensures) ∙ sym c.in_ok-target.ensures
    ∙ ap (λ (n : ℕ). Some n) (sym c.new.ensures) in
    let so_far = subst (λ (ws : List WordView). Added names c.args.waits.now old c.args.item c.args.place
    c.loop-word.next ws c.args.targets) c.in-Some.ensures.steps c.loop-word.invariant.0 in
    let grown : c.push_target.new.self ≡ slice_set old c.args.item
    (targets_of old c.args.item ++ (record {
      item = c.new.result;
      whole = false;
      unsure = false;
      place = c.loop-word.next;
    } ∷ [])) = search rules in (
      Added-more names c.args.waits.now old c.push_target.new.self c.args.item c.args.place c.loop-word.next word rest
          c.args.targets c.new.result c.requires.item found grown so_far,
      omega (arith, c.if-next-ge-MAX_FLUSHES.false),
    )
