use Rattle.std.proofs.Common.{◌<◌, length, refl, ap, arith}
use Rattle.wq_history.proofs.Words.{declared_by, state}
use Rattle.wq_history.proofs.Deeds.{wait_says, wait_is_lawful}
use Rattle.wq_history.proofs.book.Book.answer_wait.Goals as goal

pub make_in-row-requires-clause-lawful : goal.make_in-row-requires-clause-lawful
make_in-row-requires-clause-lawful g c =
    let b = c.args.self.now in
    let q = c.args.context.lane in
    let h = c.args.context.number in
    let r = c.in-Some.running in
    let awake = c.in-Some.ensures.some in
    let fewer : r.made < length (declared_by b.wiring r.entry.item) =
    rw (← c.self.view_is) (omega (arith, c.if-made-waits.false, ap length c.waits.ensures)) in
    rw c.wait_of-deed.ensures
    (wait_is_lawful b.wiring (state b) q h c.args.flush.whole c.args.flush.target r c.in-Some.ensures.known.1 awake.0
    (record {
      awake = awake.1;
      declared = rw (← c.self.view_is) (c.if-not-declares.ensures.0 refl);
      fewer = fewer;
    }))

pub make_in-row-requires-clause-says : goal.make_in-row-requires-clause-says
make_in-row-requires-clause-says g c =
    let b = c.args.self.now in
    rw c.wait_of-deed.ensures
    (wait_says b.wiring (state b) c.args.flush.whole c.args.flush.target c.is_unfinished-unfinished.result
    (rw (← c.subject_of.ensures) c.is_unfinished-unfinished.ensures))

pub returns : goal.returns
returns g c = (rw (← c.wait_of-deed.ensures) c.make_in-row.ensures.event, c.make_in-row.ensures.writes)
