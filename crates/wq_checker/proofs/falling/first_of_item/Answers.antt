use Rattle.std.proofs.Common.{◌≡◌, List, length, get_or, ap, subst, arith}
use Rattle.wq_items.specs.declared.target.Target.{Target}
use Rattle.wq_items.proofs.Tables.{targets_of-rise}
use Rattle.wq_groups.specs.Declaration.{declaration_of}
use Rattle.wq_checker.specs.Falling.{Falls}
use Rattle.wq_checker.proofs.FallingLemmas.{IsFirstOf-item}
use Rattle.wq_checker.proofs.falling.first_of_item.Goals as goal

pub returns-then-get-lane : goal.returns-then-get-lane
returns-then-get-lane g c =
    let table = c.args.table.now in
    let d = declaration_of table c.args.groups.now in
    let same = c.waits-target-items.ensures in
    let target = c.target-item.result in
    IsFirstOf-item d (Falls d c.args.assignment.now) c.args.item c.loop-target.target-index target
    (targets_of-rise table.waits c.args.item c.len-items.ensures.table.places_rise)
    (omega (arith, c.loop-target-test.true, ap length same))
    (subst (λ (l : List Target). target ≡ get_or l c.loop-target.target-index target) same c.target-item.is)
    (λ falls. omega (
      arith,
      falls,
      c.if-get-lane.true,
      c.get.ensures,
      c.lane_of-in-loop-target.ensures,
      c.get-lane.ensures,
      c.lane_of.ensures,
    )) c.loop-target.invariant
