use Rattle.std.proofs.Common.{◌≡◌, ◌++◌, ◌∷◌, [], ℕ, List, get_or, ap, ◌∙◌, arith}
use Rattle.std.specs.Prelude.{decimal}
use Rattle.std.proofs.lemmas.List.{get_or_default}
use Rattle.std.proofs.lemmas.Option.{get_or_from_slice_get}
use Rattle.std.proofs.lemmas.Result.{on_ok_weaker}
use Rattle.wq_text.specs.LineText.{spaced}
use Rattle.wq_cert.specs.PlanText.{name_of}
use Rattle.wq_cert.proofs.LineLemmas.{wq_front-none, wq_front-next, wq_front-all}
use Rattle.wq_cert.proofs.plan_printing.put_wq_line.Goals as goal

pub loop-item-init : goal.loop-item-init
loop-item-init g c =
    let out = c.args.out.now.items in
    let q = c.args.q in
    c.in_ok-put_number.ensures.added ∙ ap (λ (n : ℕ). c.put.new.out.items ++ spaced (decimal n)) c.from.ensures ∙ ap (λ (o : List ℕ). o ++ spaced (decimal q)) c.in_ok-put.ensures.added ∙ wq_front-none c.args.table.now.names q out

pub loop-item-preserved : goal.loop-item-preserved
loop-item-preserved g c =
    let names = c.args.table.now.names in
    let item : c.new.result ≡ get_or c.args.items.now c.loop-item.item-index c.new.result =
    c.new.ensures ∙ get_or_default c.args.items.now c.loop-item.item-index 0 c.new.result c.loop-item-test.true in
    let name : name_of names c.new.result ≡ c.name.result.now = get_or_from_slice_get names c.new.result c.name.result.now [] c.name.ensures in
    c.in_ok-put_word.ensures.added ∙ ap (λ (o : List ℕ). o ++ spaced c.name.result.now) c.loop-item.invariant
    ∙ wq_front-next names c.args.q c.args.out.now.items c.args.items.now c.name.result.now c.loop-item.item-index c.new.result c.loop-item-test.true item name

pub returns : goal.returns
returns g c =
    let all = wq_front-all c.args.table.now.names c.args.q c.args.out.now.items c.args.items.now c.loop-item.item-index (omega (arith, c.loop-item-test.false, c.loop-item.auto.item-index-end)) in
    on_ok_weaker c.put_end.result (λ e. e ∙ ap (λ (o : List ℕ). o ++ (10 ∷ [])) c.loop-item.invariant ∙ all) c.put_end.ensures.added
