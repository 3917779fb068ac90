use Rattle.std.proofs.Common.{ℕ, ◌+◌, ◌<◌, sym, subst, arith}
use Rattle.std.specs.List.{All}
use Rattle.std.proofs.lemmas.List.Elements.{All-push}
use Rattle.test_crates.proofs.choosers.lanes_by.Goals as goal

pub loop-item-preserved : goal.loop-item-preserved
loop-item-preserved c =
    let i = c.loop-item.item in
    subst (All (λ (k : ℕ). k < i + 1)) (sym c.in_ok-push.ensures.items)
    (All-push (λ (k : ℕ). k < i + 1) c.loop-item.names.items _
    (λ k e lt. omega (arith, c.loop-item.invariant k e lt)) (omega (arith, c.new.ensures)))
