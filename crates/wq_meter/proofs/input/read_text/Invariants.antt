-- The text is what came, in no more calls than it has bytes, and none of them failed.
use Rattle.std.proofs.Common.{◌≡◌, ◌+◌, ◌≤◌, vec_len}
use Rattle.std.specs.Io.KnownBytes.{Consumes}
use Rattle.wq_meter.specs.Meter.{count_after}
use Rattle.wq_meter.proofs.input.read_text.Given as goal

abbrev pub invariant-loop-room : goal.invariant-loop-room
invariant-loop-room g l = record {
  within : l.room + vec_len l.text ≡ l.limit + 1;
  consumed : Consumes (g.R.Read.remaining l.initial.reader.device) (g.R.Read.remaining l.reader.device) l.text.items;
  few_calls : l.reader.calls ≤ l.initial.reader.calls + vec_len l.text;
  counted : l.reader.bytes ≡ count_after l.initial.reader.bytes (vec_len l.text);
  none_failed : l.reader.failures ≡ l.initial.reader.failures;
}

abbrev pub decreases-loop-room : goal.decreases-loop-room
decreases-loop-room g l = l.room
