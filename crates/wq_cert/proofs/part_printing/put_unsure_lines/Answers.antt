use Rattle.std.proofs.Common.{◌≡◌, ℕ, get_or, Some, sym, ap, ◌∙◌}
use Rattle.wq_cert.specs.Part.{unsure_at}
use Rattle.wq_cert.proofs.PrintedParts.{at_place-is, unsure_at-is, unsure_lines-more, unsure_lines-same}
use Rattle.wq_cert.proofs.part_printing.put_unsure_lines.Goals as goal
use Rattle.wq_cert.proofs.part_printing.put_unsure_lines.Goals.{in-Some+in_ok-put_unsure_line, in_default}

pub put_unsure_line-requires-clause-item : goal.put_unsure_line-requires-clause-item
put_unsure_line-requires-clause-item g c =
    let t = c.args.table.now in
    let p : ℕ = get_or c.args.kept.now c.loop-place.place-index 0 in
    let is : unsure_at t.waits p ≡ Some c.in-Some.flush =
    sym (at_place-is t c.requires.table c.args.flushes.now p c.requires.flushes) ∙ sym c.at_place.ensures
    ∙ c.in-Some.is in
    (unsure_at-is t c.requires.table p c.in-Some.flush is).item

pub put_unsure_line-requires-clause-target : goal.put_unsure_line-requires-clause-target
put_unsure_line-requires-clause-target g c =
    let t = c.args.table.now in
    let p : ℕ = get_or c.args.kept.now c.loop-place.place-index 0 in
    let is : unsure_at t.waits p ≡ Some c.in-Some.flush =
    sym (at_place-is t c.requires.table c.args.flushes.now p c.requires.flushes) ∙ sym c.at_place.ensures
    ∙ c.in-Some.is in
    (unsure_at-is t c.requires.table p c.in-Some.flush is).target

pub loop-place-preserved : goal.loop-place-preserved
loop-place-preserved g c =
    let t = c.args.table.now in
    let p : ℕ = get_or c.args.kept.now c.loop-place.place-index 0 in
    let found : unsure_at t.waits p ≡ c.at_place.result =
    sym (at_place-is t c.requires.table c.args.flushes.now p c.requires.flushes) ∙ sym c.at_place.ensures in
    elim c.match-at_place.branch [
      | in-Some+in_ok-put_unsure_line w ↦
          ap (λ v. v.items) w.out-is ∙ w.in_ok-put_unsure_line.ensures
          ∙ unsure_lines-more t.names t.waits c.args.kept.now c.loop-place.place-index c.args.out.now.items
          c.loop-place-test.true c.loop-place.out.items w.in-Some.flush (found
          ∙ w.in-Some.is) c.loop-place.invariant
      | in_default w ↦
          ap (λ v. v.items) w.out-is
          ∙ unsure_lines-same t.names t.waits c.args.kept.now c.loop-place.place-index c.args.out.now.items
          c.loop-place-test.true c.loop-place.out.items (found ∙ w.in_default.is) c.loop-place.invariant
    ]
