use Rattle.std.proofs.Common.{◌≡◌, ◌<◌, ℕ, Bool, length, take, Some, None, sym, ap, ◌∙◌, arith}
use Rattle.std.specs.Prelude.{find}
use Rattle.std.proofs.lemmas.List.{take_all}
use Rattle.wq_cert.proofs.ReadParts.{is_open, stood_for-of, open-here, not-declared_so, not-free}
use Rattle.wq_cert.proofs.part_reading.stood_for.Goals as goal
use Rattle.wq_cert.proofs.part_reading.stood_for.Goals.{else-is_declared_so-via-then-is_declared_so+else-is_free}
use Rattle.wq_cert.proofs.part_reading.stood_for.Goals.{else-is_declared_so-via-else-is_declared_so}

pub returns-then-is_free-clause-place : goal.returns-then-is_free-clause-place
returns-then-is_free-clause-place g c = λ taken are.
    let form : Bool × (ℕ × ℕ) = (c.args.form.now.whole, (c.args.form.now.item, c.args.form.now.target)) in
    let ts = c.waits-target-items.result.now in
    let u = c.target-item.result in
    let item : c.args.form.now.item < length c.args.table.now.names =
    omega (arith, c.if-get-len.false, c.get.ensures, c.len.ensures.len) in
    let found = open-here c.args.marks.now form ts c.loop-target.target-index u c.loop-target-test.true
    c.target-item.is c.loop-target.invariant (sym c.is_declared_so.ensures
    ∙ c.if-is_declared_so.true) (sym c.is_free.ensures.free ∙ c.if-is_free.true) in
    stood_for-of c.args.table.now c.len.ensures.table taken c.args.marks.now are form item ts
    c.waits-target-items.ensures (Some u) found

pub loop-target-preserved : goal.loop-target-preserved
loop-target-preserved g c =
    let form : Bool × (ℕ × ℕ) = (c.args.form.now.whole, (c.args.form.now.item, c.args.form.now.target)) in
    let ts = c.waits-target-items.result.now in
    let u = c.target-item.result in
    elim c.else-is_declared_so.branch [
      | else-is_declared_so-via-then-is_declared_so+else-is_free w ↦
          not-free c.args.marks.now form ts c.loop-target.target-index u c.loop-target-test.true c.target-item.is
          c.loop-target.invariant (sym w.is_free.ensures.free ∙ w.if-is_free.false)
      | else-is_declared_so-via-else-is_declared_so w ↦
          not-declared_so c.args.marks.now form ts c.loop-target.target-index u c.loop-target-test.true
          c.target-item.is c.loop-target.invariant (sym c.is_declared_so.ensures ∙ w.if-is_declared_so.false)
    ]

pub returns-clause-place : goal.returns-clause-place
returns-clause-place g c = λ taken are.
    let form : Bool × (ℕ × ℕ) = (c.args.form.now.whole, (c.args.form.now.item, c.args.form.now.target)) in
    let ts = c.waits-target-items.result.now in
    let item : c.args.form.now.item < length c.args.table.now.names =
    omega (arith, c.if-get-len.false, c.get.ensures, c.len.ensures.len) in
    let all : take c.loop-target.target-index ts ≡ ts =
    take_all c.loop-target.target-index ts (omega (arith, c.loop-target-test.false)) in
    let found : find (is_open c.args.marks.now form) ts ≡ None =
    ap (find (is_open c.args.marks.now form)) (sym all) ∙ c.loop-target.invariant in
    stood_for-of c.args.table.now c.len.ensures.table taken c.args.marks.now are form item ts
    c.waits-target-items.ensures None found
