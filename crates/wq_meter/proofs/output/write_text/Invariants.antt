-- A prefix of the text is written, in no more calls than it has bytes, and none of them failed.
use Rattle.std.proofs.Common.{◌≡◌, ◌+◌, ◌-◌, ◌≤◌, length, take}
use Rattle.std.specs.Io.KnownBytes.{Appends}
use Rattle.wq_meter.specs.Meter.{count_after}
use Rattle.wq_meter.proofs.output.write_text.Given as goal

abbrev pub invariant-loop-written : goal.invariant-loop-written
invariant-loop-written g l = record {
  within : l.written ≤ length l.text;
  appended : Appends (g.W.Write.contents l.initial.writer.device) (g.W.Write.contents l.writer.device) (take l.written l.text);
  few_calls : l.writer.calls ≤ l.initial.writer.calls + l.written;
  counted : l.writer.bytes ≡ count_after l.initial.writer.bytes l.written;
  none_failed : l.writer.failures ≡ l.initial.writer.failures;
}

abbrev pub decreases-loop-written : goal.decreases-loop-written
decreases-loop-written g l = length l.text - l.written
