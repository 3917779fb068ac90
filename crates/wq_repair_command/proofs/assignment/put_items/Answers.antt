use Rattle.std.proofs.Common.{◌≡◌, ◌++◌, [], ℕ, List, get_or, ap, ◌∙◌, arith}
use Rattle.std.specs.Prelude.{map, flat_map}
use Rattle.std.proofs.lemmas.List.{get_or_default, take_all}
use Rattle.std.proofs.lemmas.Option.{get_or_from_slice_get}
use Rattle.wq_text.specs.LineText.{spaced}
use Rattle.wq_cert.specs.PlanText.{name_of}
use Rattle.wq_repair_command.proofs.Lines.{words-next}
use Rattle.wq_repair_command.proofs.assignment.put_items.Goals as goal

pub loop-item-preserved : goal.loop-item-preserved
loop-item-preserved g c =
    let names = c.args.table.now.names in
    let item : c.new.result ≡ get_or c.args.items.now c.loop-item.item-index c.new.result =
    c.new.ensures ∙ get_or_default c.args.items.now c.loop-item.item-index 0 c.new.result c.loop-item-test.true in
    let name : name_of names c.new.result ≡ c.name.result.now = get_or_from_slice_get names c.new.result c.name.result.now [] c.name.ensures in
    c.in_ok-put_word.ensures.added ∙ ap (λ (o : List ℕ). o ++ spaced c.name.result.now) c.loop-item.invariant
    ∙ words-next names c.args.out.now.items c.args.items.now c.name.result.now c.loop-item.item-index c.new.result c.loop-item-test.true item name

pub returns : goal.returns
returns g c =
    c.loop-item.invariant
    ∙ ap (λ (is : List ℕ). c.args.out.now.items ++ flat_map spaced (map (name_of c.args.table.now.names) is))
    (take_all c.loop-item.item-index c.args.items.now (omega (arith, c.loop-item-test.false, c.loop-item.auto.item-index-end)))
