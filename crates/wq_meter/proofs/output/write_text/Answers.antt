use Rattle.std.proofs.Common.{arith}
use Rattle.std.proofs.lemmas.List.{take_rest}
use Rattle.wq_meter.proofs.MeterLemmas.{Appends-take_more}
use Rattle.wq_meter.proofs.output.write_text.Goals as goal

pub loop-written-preserved : goal.loop-written-preserved
loop-written-preserved g c =
    let before = c.loop-written.invariant in
    let one = c.in_ok-written.ensures in
    record {
      within = omega arith;
      appended = Appends-take_more _ _ _ c.args.text.now _ _ before.appended (rw take_rest at one.known_bytes);
      few_calls = omega arith;
      counted = omega arith;
      none_failed = omega arith;
    }
