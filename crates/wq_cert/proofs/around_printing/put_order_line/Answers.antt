use Rattle.std.proofs.Common.{◌++◌, ◌∷◌, [], ℕ, List, ap, ◌∙◌, arith}
use Rattle.std.specs.Prelude.{decimal}
use Rattle.std.proofs.lemmas.Result.{on_ok_weaker}
use Rattle.wq_text.specs.LineText.{spaced}
use Rattle.wq_cert.proofs.OrderLines.{order_front-none, order_front-next, order_front-all}
use Rattle.wq_cert.proofs.around_printing.put_order_line.Goals as goal

pub loop-lane-init : goal.loop-lane-init
loop-lane-init g c = c.in_ok-put.ensures.added ∙ order_front-none c.args.out.now.items

pub loop-lane-preserved : goal.loop-lane-preserved
loop-lane-preserved g c =
    let q = c.lane-item.result in
    c.in_ok-put_number.ensures.added
    ∙ ap (λ (n : ℕ). c.loop-lane.out.items ++ spaced (decimal n)) (c.from.ensures ∙ c.get.ensures)
    ∙ ap (λ (o : List ℕ). o ++ spaced (decimal q)) c.loop-lane.invariant
    ∙ order_front-next c.args.out.now.items c.args.order.now c.loop-lane.lane-index q c.loop-lane-test.true
    c.lane-item.is

pub returns : goal.returns
returns g c =
    let all = order_front-all c.args.out.now.items c.args.order.now c.loop-lane.lane-index
    (omega (arith, c.loop-lane-test.false, c.loop-lane.auto.lane-index-end)) in
    on_ok_weaker c.put_end.result
    (λ e. e ∙ ap (λ (o : List ℕ). o ++ (10 ∷ [])) c.loop-lane.invariant ∙ all) c.put_end.ensures.added
