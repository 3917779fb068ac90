use Rattle.std.proofs.Common.{◌≡◌, false, true, refl}
use Rattle.wq_history.proofs.Words.{IsHeldBack, state}
use Rattle.wq_core.proofs.LawfulSteps.{waiting-target}
use Rattle.wq_history.proofs.Deeds.{runs-context, over_says, over_is_lawful}
use Rattle.wq_history.proofs.LegalRows.{IsSoundState-legal}
use Rattle.wq_history.proofs.CallRows.{held-back}
use Rattle.wq_history.proofs.book.Book.answer_over.Goals as goal

pub subject_of-subject-requires : goal.subject_of-subject-requires
subject_of-subject-requires g c =
    let b = c.args.self.now in
    let book = c.legal.ensures in
    let waits = c.in-Some.ensures.some.0.0 in
    waiting-target b.wiring (state b) c.args.context.lane c.args.context.number waits.0 c.in-Some.waits book.wiring
    (IsSoundState-legal b.wiring b.rows book.legal) waits.1 waits.2

pub make_in-row-requires-clause-lawful : goal.make_in-row-requires-clause-lawful
make_in-row-requires-clause-lawful g c =
    let b = c.args.self.now in
    let q = c.args.context.lane in
    let h = c.args.context.number in
    let f = c.in-Some.waits in
    let book = c.legal.ensures in
    let waits = c.in-Some.ensures.some.0.0 in
    let done : ¬ IsHeldBack b.wiring (state b) f.whole f.target f.mark =
    λ held.
    let unfinished = (held-back b.wiring (state b) f.whole f.target f.mark).0 held in
    let below = c.if-unfinished_below.ensures.1 (rw c.subject_of-subject.ensures unfinished) in
    absurd (let never : false ≡ true = below in cc) in
    rw c.over_of-deed.ensures
    (over_is_lawful b q h f
    (runs-context b.wiring (state b) q h waits.0 book.wiring (IsSoundState-legal b.wiring b.rows book.legal) waits.1)
    waits done)

pub make_in-row-requires-clause-says : goal.make_in-row-requires-clause-says
make_in-row-requires-clause-says g c =
    let b = c.args.self.now in
    rw c.over_of-deed.ensures (over_says b.wiring (state b) c.in-Some.waits.whole c.in-Some.waits.target)

pub returns-then-unfinished_below : goal.returns-then-unfinished_below
returns-then-unfinished_below g c =
    let f = c.in-Some.waits in
    let waits = c.in-Some.ensures.some in
    let unfinished = rw (c.subject_of-subject.ensures, waits.0.1, waits.1) at (c.if-unfinished_below.ensures.0 refl) in
    ((f.mark, (f, waits.0, waits.1, refl), unfinished), refl)

pub returns : goal.returns
returns g c =
    let waits = c.in-Some.ensures.some in (
      rw (c.over_of-deed.ensures, waits.0.1, waits.1) at c.make_in-row.ensures.event,
      c.make_in-row.ensures.writes,
    )
