use Rattle.std.proofs.Common.{ℕ, ◌+◌, sym, subst, arith}
use Rattle.wq_groups.specs.Declaration.{declaration_of}
use Rattle.wq_checker.specs.Falling.{Falls}
use Rattle.wq_checker.specs.Searching.{FindsFirst, OfItem, OfItemsBelow}
use Rattle.wq_checker.proofs.FallingLemmas.{FindsFirst-earlier, IsFirstNotFalling-found}
use Rattle.wq_checker.proofs.falling.first_not_falling.Goals as goal

pub loop-number-preserved : goal.loop-number-preserved
loop-number-preserved g c =
    let d = declaration_of c.args.table.now c.args.groups.now in
    let a = c.args.assignment.now in
    let n = c.loop-number.number in
    let last : FindsFirst (Falls d a) (OfItem d n) c.first_of_item-found.result =
    subst (λ (k : ℕ). FindsFirst (Falls d a) (OfItem d k) c.first_of_item-found.result) c.new.ensures
    c.first_of_item-found.ensures in
    subst (FindsFirst (Falls d a) (OfItemsBelow d (n + 1))) (sym c.earlier-least.ensures)
    (FindsFirst-earlier d (Falls d a) n c.loop-number.least c.first_of_item-found.result c.loop-number.invariant
    last)

pub returns-clause-some : goal.returns-clause-some
returns-clause-some g c =
    let d = declaration_of c.args.table.now c.args.groups.now in
    let a = c.args.assignment.now in
    let n = c.loop-number.number in
    IsFirstNotFalling-found d a n c.in_ok-item.field-0
    (omega (
      arith,
      c.loop-number-test.false,
      c.len-number-end.ensures.len,
      c.len-number-end.ensures.table.one_list_each,
    ))
    (subst (FindsFirst (Falls d a) (OfItemsBelow d n)) c.in_ok-item.was c.loop-number.invariant)
