use Rattle.std.proofs.Common.{rules, arith}
use Rattle.wq_meter.proofs.MeterLemmas.{LosesPrefix-more, Consumes-nothing, HasGivenBytes-read, all_read, prefix_read}
use Rattle.wq_meter.proofs.input.read_text.Goals as goal

pub returns-in_err-extend_from_slice-clause-lost :
    goal.returns-in_err-extend_from_slice-clause-lost
returns-in_err-extend_from_slice-clause-lost g c =
    let before = c.loop-room.invariant in
    let one = c.in_ok-count.ensures in
    LosesPrefix-more g.R.Read.remaining c.args.reader.now c.loop-room.reader c.read_chunk.new.reader _ c.in_ok-count.count _ c.loop-room.text.items c.read_chunk.new.chunk
    before.consumed c.loop-room.text.ok.0 before.counted one.consumed one.bytes (omega arith) (search rules)

pub returns-then-count-eq0-clause-given : goal.returns-then-count-eq0-clause-given
returns-then-count-eq0-clause-given g c =
    let before = c.loop-room.invariant in
    let one = c.in_ok-count.ensures in
    let text = c.loop-room.text in
    let none = c.if-count-eq0.true in
    let known = g.R.Read.remaining in
    let consumed = Consumes-nothing (known c.args.reader.now.device) (known c.loop-room.reader.device) (known c.read_chunk.new.reader.device) text.items c.read_chunk.new.chunk c.in_ok-count.count none before.consumed one.consumed in
    HasGivenBytes-read known c.args.reader.now c.read_chunk.new.reader c.args.limit text.len text.items text.ok.0
    (all_read _ _ text.items _ consumed (one.end none) (omega (arith, text.ok.0))) (omega arith) consumed (omega arith) (omega arith) (omega arith)

pub returns-clause-given : goal.returns-clause-given
returns-clause-given g c =
    let before = c.loop-room.invariant in
    let text = c.loop-room.text in
    HasGivenBytes-read g.R.Read.remaining c.args.reader.now c.loop-room.reader c.args.limit text.len text.items text.ok.0
    (prefix_read _ _ text.items _ before.consumed (omega (arith, text.ok.0))) (omega arith) before.consumed before.counted (omega arith) before.none_failed
