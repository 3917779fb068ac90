use Rattle.std.proofs.Common.{◌≡◌, ℕ, List, length, map, subst, sym, arith}
use Rattle.std.proofs.lemmas.List.{length-map}
use Rattle.wq_circles.specs.Lists.{Next}
use Rattle.wq_circles.specs.Finishing.{IsFinishing}
use Rattle.wq_circles.proofs.Walked.{IsFinishing-all}
use Rattle.wq_circles.proofs.finishing.finishing_order.Goals as goal

pub returns : goal.returns
returns g c =
    let shown : List (List ℕ) = map (λ list. list.items) c.args.lists.now in
    let before = c.loop-root.invariant in
    let long : length shown ≡ c.args.vertices = omega (arith, length-map c.args.lists.now (λ list. list.items), c.requires.one_each) in
    subst (IsFinishing (Next shown) c.args.vertices) (sym c.into_finished.ensures)
    (subst (λ (n : ℕ). IsFinishing (Next shown) n c.loop-root.walk.finished) long
    (IsFinishing-all shown c.loop-root.walk before.is_walk before.at_rest (λ v lt. before.visited v (omega (arith, lt, long, c.loop-root-test.false)))))
