use Rattle.std.proofs.Common.{List, ℕ, map, sym, ◌∙◌, arith}
use Rattle.std.proofs.lemmas.Result.{IfOk-weaker}
use Rattle.wq_circles.proofs.HeldSearch.{FindsAll-known, FindsAll-spread}
use Rattle.wq_circles.proofs.held.find.Goals as goal

pub returns-then-has : goal.returns-then-has
returns-then-has g c =
    let shown : List (List ℕ) = map (λ l. l.items) c.args.lists.now in
    let s = c.args.found.now in
    FindsAll-known shown s c.args.vertex c.requires.found c.requires.closed
    ((c.requires.found.marked c.args.vertex (omega (arith, c.requires.vertex, c.requires.one_each))).0
    (sym c.has.ensures ∙ c.if-has.true))

pub returns : goal.returns
returns g c =
    let shown : List (List ℕ) = map (λ l. l.items) c.args.lists.now in
    let s = c.args.found.now in
    IfOk-weaker c.spread.result _ _
    (λ _ spreads. FindsAll-spread shown s c.args.vertex c.spread.new.found c.requires.closed spreads) c.spread.ensures
