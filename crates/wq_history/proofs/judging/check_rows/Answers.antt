use Rattle.std.proofs.Common.{◌≡◌, ◌≢◌, true, false, length, sym, ◌∙◌, arith}
use Rattle.std.proofs.lemmas.Bool.{eqb-true, eqb-false}
use Rattle.wq_history.proofs.Histories.{step-lawful}
use Rattle.wq_history.proofs.Judged.{judged-length, judged-first, judged-next, judged-all, bad-row, cut-off, not-legal}
use Rattle.wq_history.proofs.Judged.{few_asks, ask-counted, told-counted, follows}
use Rattle.wq_history.proofs.judging.check_rows.Goals as goal

pub loop-bytes-init : goal.loop-bytes-init
loop-bytes-init g c =
    judged-first c.args.core.now c.args.packed.now c.in-Ok.asks c.items.ensures.machine c.requires.new
    (rw (c.items.ensures.items, c.lanes.ensures.lanes) at c.in-Ok.ensures.counts)

pub overflow_add-at : goal.overflow_add-at
overflow_add-at g c = omega (arith, judged-length c.loop-bytes.invariant, c.requires.few)

pub returns-in_default-unpack-clause-refused : goal.returns-in_default-unpack-clause-refused
returns-in_default-unpack-clause-refused g c =
    bad-row c.loop-bytes.invariant c.in-Some.bytes.now c.in-Some.after.now c.in-Some.ensures.cases
    c.in_default-unpack.ensures.none

pub may_come-requires : goal.may_come-requires
may_come-requires g c =
    let so_far = c.loop-bytes.invariant in
    omega (arith, so_far.replays.numbers, so_far.counted_rows, judged-length so_far, c.requires.few)

pub returns-then-not-may_come-clause-refused : goal.returns-then-not-may_come-clause-refused
returns-then-not-may_come-clause-refused g c =
    not-legal c.loop-bytes.invariant c.in-Some-unpack.row c.of-waiting.result
    (rw c.of-subject.ensures at c.of-waiting.ensures) c.in-Some.bytes.now c.in-Some.after.now
    c.in-Some.ensures.cases c.in-Some-unpack.ensures.some
    (λ may. let both : true ≡ false = sym (c.may_come.ensures.1 may) ∙ c.if-not-may_come.true in absurd cc)

pub make-requires-clause-lawful : goal.make-requires-clause-lawful
make-requires-clause-lawful g c =
    let m = c.loop-bytes.core in
    let row = c.in-Some-unpack.row in
    rw c.step_of.ensures
    (step-lawful m.wiring m.state c.of-waiting.result row.event row.yes row.number
    (c.may_come.ensures.0 c.if-not-may_come.false))

pub make-requires-clause-numbers : goal.make-requires-clause-numbers
make-requires-clause-numbers g c =
    let so_far = c.loop-bytes.invariant in
    omega (arith, so_far.replays.numbers, so_far.counted_rows, judged-length so_far, c.requires.few)

pub count-requires-clause-place : goal.count-requires-clause-place
count-requires-clause-place g c x =
    let l = c.loop-bytes in
    ask-counted l.core l.invariant.rows l.asks c.in-Some-unpack.row x l.invariant.replays
    (follows l.invariant c.in-Some-unpack.row c.of-waiting.result
    (rw c.of-subject.ensures at c.of-waiting.ensures) (c.may_come.ensures.0 c.if-not-may_come.false))

pub count-requires-clause-some : goal.count-requires-clause-some
count-requires-clause-some g c x =
    let l = c.loop-bytes in
    told-counted l.core l.invariant.rows l.asks c.in-Some-unpack.row x l.invariant.replays
    (follows l.invariant c.in-Some-unpack.row c.of-waiting.result
    (rw c.of-subject.ensures at c.of-waiting.ensures) (c.may_come.ensures.0 c.if-not-may_come.false))

pub count-requires-clause-few : goal.count-requires-clause-few
count-requires-clause-few g c =
    let so_far = c.loop-bytes.invariant in
    omega (
      arith,
      few_asks c.loop-bytes.core so_far.rows c.loop-bytes.asks so_far.replays,
      so_far.counted_rows,
      judged-length so_far,
      c.requires.few,
    )

pub loop-bytes-preserved : goal.loop-bytes-preserved
loop-bytes-preserved g c =
    rw (c.make.ensures, c.step_of.ensures, c.count.ensures)
    (judged-next c.loop-bytes.invariant c.in-Some-unpack.row c.of-waiting.result
    (rw c.of-subject.ensures at c.of-waiting.ensures) (c.may_come.ensures.0 c.if-not-may_come.false)
    c.in-Some.bytes.now c.in-Some.after.now c.in-Some.ensures.cases c.in-Some-unpack.ensures.some c.requires.few)

pub returns-then-is_empty-clause-legal : goal.returns-then-is_empty-clause-legal
returns-then-is_empty-clause-legal g c =
    judged-all c.loop-bytes.invariant (eqb-true _ _ (sym c.is_empty.ensures ∙ c.if-is_empty.true))

pub overflow_add-result : goal.overflow_add-result
overflow_add-result g c = omega (arith, judged-length c.loop-bytes.invariant, c.requires.few)

pub returns-clause-refused : goal.returns-clause-refused
returns-clause-refused g c =
    let some : length c.loop-bytes.left.now ≢ 0 = eqb-false _ _ (sym c.is_empty.ensures ∙ c.if-is_empty.false) in
    cut-off c.loop-bytes.invariant c.in_default-split_at_checked.ensures.cases (omega (arith, some))
