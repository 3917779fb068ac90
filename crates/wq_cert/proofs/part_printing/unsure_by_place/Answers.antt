use Rattle.std.proofs.Common.{◌<◌, length, arith, rules}
use Rattle.wq_items.specs.Table.{flush_count}
use Rattle.wq_cert.proofs.PrintedParts.{place-below, AreAt-sure_one, AreAt-unsure_one, AreAt-more, AreAt-all}
use Rattle.wq_cert.proofs.part_printing.unsure_by_place.Goals as goal
use Rattle.wq_cert.proofs.part_printing.unsure_by_place.Goals.{then-target, else-target}

pub index_mut-requires : goal.index_mut-requires
index_mut-requires g c =
    let below : c.target-item.result.place < flush_count c.args.table.now.waits =
    place-below c.args.table.now c.len-items.ensures.table c.loop-number.number c.new-item.result
    c.loop-target.target-index c.waits-target-items.result.now c.target-item.result
    (omega (arith, c.loop-number-test.true, c.len-items.ensures.len)) c.new-item.ensures c.waits-target-items.ensures
    c.loop-target-test.true c.target-item.is in
    omega (arith, below, c.loop-target.invariant.len, c.loop-target.flushes.ok.0)

pub loop-target-preserved : goal.loop-target-preserved
loop-target-preserved g c =
    let within : c.loop-number.number < length c.args.table.now.names =
    omega (arith, c.loop-number-test.true, c.len-items.ensures.len) in
    elim c.if-target.branch [
      | then-target w ↦
          AreAt-unsure_one c.args.table.now c.len-items.ensures.table c.loop-number.number c.new-item.result
          c.loop-target.target-index c.waits-target-items.result.now c.target-item.result within
          c.new-item.ensures c.waits-target-items.ensures
          c.loop-target-test.true c.target-item.is c.loop-target.flushes.items c.if-target.flushes.items
          w.if-target.true (search rules) c.loop-target.invariant
      | else-target w ↦
          AreAt-sure_one c.args.table.now c.len-items.ensures.table c.loop-number.number c.new-item.result
          c.loop-target.target-index c.waits-target-items.result.now c.target-item.result within
          c.new-item.ensures c.waits-target-items.ensures
          c.loop-target-test.true c.target-item.is c.loop-target.flushes.items c.if-target.flushes.items
          w.if-target.false (search rules) c.loop-target.invariant
    ]

pub loop-number-preserved : goal.loop-number-preserved
loop-number-preserved g c =
    AreAt-more c.args.table.now c.loop-number.number c.new-item.result c.loop-target.target-index
    c.waits-target-items.result.now c.loop-target.flushes.items c.new-item.ensures c.waits-target-items.ensures
    (omega (arith, c.loop-target-test.false, c.loop-target.auto.target-index-end)) c.loop-target.invariant

pub returns-clause-flushes : goal.returns-clause-flushes
returns-clause-flushes g c =
    AreAt-all c.args.table.now.waits c.loop-number.number c.loop-number.flushes.items
    (omega (
      arith,
      c.loop-number-test.false,
      c.loop-number.auto.number-end,
      c.len-items.ensures.len,
      c.len-items.ensures.table.one_list_each,
    )) c.loop-number.invariant
