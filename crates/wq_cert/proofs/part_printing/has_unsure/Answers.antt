use Rattle.std.proofs.Common.{◌<◌, length, arith, ◌∙◌, sym}
use Rattle.wq_cert.proofs.PrintedParts.{has_unsure-more}
use Rattle.wq_cert.proofs.part_printing.has_unsure.Goals as goal

pub loop-number-preserved : goal.loop-number-preserved
loop-number-preserved g c =
    let waits = c.args.table.now.waits in
    let i = c.loop-number.number in
    let within : i < length waits =
    omega (
      arith,
      c.loop-number-test.true,
      c.len-number-end.ensures.len,
      c.len-number-end.ensures.table.one_list_each,
    ) in
    has_unsure-more waits i c.new.result c.waits.result.now within c.new.ensures c.waits.ensures
    c.loop-number.invariant (sym c.is_any_unsure.ensures ∙ c.if-is_any_unsure.false)
