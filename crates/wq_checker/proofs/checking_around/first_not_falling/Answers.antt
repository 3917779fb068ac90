use Rattle.std.proofs.Common.{ℕ, ◌+◌, Option, Some, None, IfNone, sym, subst, arith}
use Rattle.wq_groups.specs.Declaration.{declaration_of}
use Rattle.wq_checker.specs.Searching.{FindsFirst, OfItem, OfItemsBelow}
use Rattle.wq_checker.specs.SearchingAround.{AllItemsFall, ItemsFall}
use Rattle.wq_checker.proofs.AroundFalling.{IsFirstItemStaying-found, AllItemsFall-found}
use Rattle.wq_checker.proofs.FallingLemmas.{FindsFirst-earlier}
use Rattle.wq_checker.proofs.checking_around.first_not_falling.Goals as goal

IfNone-of : {X : Type 0} (P : Type 0) (o : Option X) → P → IfNone o P
IfNone-of P None p = p
IfNone-of P (Some x) p = tt

pub loop-number-preserved : goal.loop-number-preserved
loop-number-preserved g c =
    let d = declaration_of c.args.table.now c.args.groups.now in
    let Fall = ItemsFall d c.args.assignment.now c.args.bare.now c.args.places.now in
    let n = c.loop-number.number in
    let last : FindsFirst Fall (OfItem d n) c.first_of_item-found.result =
    subst (λ (k : ℕ). FindsFirst Fall (OfItem d k) c.first_of_item-found.result) c.new-item.ensures
    c.first_of_item-found.ensures in
    subst (FindsFirst Fall (OfItemsBelow d (n + 1))) (sym c.earlier-least.ensures)
    (FindsFirst-earlier d Fall n c.loop-number.least c.first_of_item-found.result c.loop-number.invariant last)

pub returns-clause-some : goal.returns-clause-some
returns-clause-some g c =
    let d = declaration_of c.args.table.now c.args.groups.now in
    let a = c.args.assignment.now in
    let bare = c.args.bare.now in
    let places = c.args.places.now in
    let n = c.loop-number.number in
    IsFirstItemStaying-found d a bare places n c.in_ok-item.field-0
    (omega (
      arith,
      c.loop-number-test.false,
      c.len-number-end.ensures.len,
      c.len-number-end.ensures.table.one_list_each,
    ))
    (subst (FindsFirst (ItemsFall d a bare places) (OfItemsBelow d n)) c.in_ok-item.was c.loop-number.invariant)

pub returns-in_err-item-clause-none : goal.returns-in_err-item-clause-none
returns-in_err-item-clause-none g c =
    let d = declaration_of c.args.table.now c.args.groups.now in
    let a = c.args.assignment.now in
    let bare = c.args.bare.now in
    let places = c.args.places.now in
    let n = c.loop-number.number in
    IfNone-of (AllItemsFall d a bare places) c.from_residual.result
    (AllItemsFall-found d a bare places n
    (omega (
      arith,
      c.loop-number-test.false,
      c.len-number-end.ensures.len,
      c.len-number-end.ensures.table.one_list_each,
    ))
    (subst (FindsFirst (ItemsFall d a bare places) (OfItemsBelow d n)) c.in_err-item.was c.loop-number.invariant))
