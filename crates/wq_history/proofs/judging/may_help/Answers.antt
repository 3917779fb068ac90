use Rattle.std.proofs.Common.{◌≡◌, ◌≤◌, false, true, arith}
use Rattle.wq_history.proofs.Words.{items, deed_item}
use Rattle.wq_history.proofs.Deeds.{not-there}
use Rattle.wq_history.proofs.judging.may_help.Goals as goal

pub returns-then-from-items : goal.returns-then-from-items
returns-then-from-items g c =
    let m = c.args.core.now in
    let past : items m.wiring ≤ deed_item c.args.deed.now = omega (arith, c.if-from-items.true, c.from.ensures, c.get.ensures, c.item.ensures, c.items.ensures.items) in (
      (λ is. absurd (let never : false ≡ true = is in cc)),
      (λ may. absurd (not-there m c.args.helper.lane c.args.helper.number c.args.deed.now c.items.ensures.machine
          past may.1.0)),
    )
