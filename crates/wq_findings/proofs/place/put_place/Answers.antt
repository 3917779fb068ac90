use Rattle.std.proofs.Common.{◌∷◌, ℕ, decimal}
use Rattle.wq_items.proofs.WaitLemmas.{OnErr-always}
use Rattle.wq_text.specs.LineText.{IsBegun}
use Rattle.wq_text.proofs.Begun.{IsBegun-at}
use Rattle.wq_findings.specs.Shown.{place_text}
use Rattle.wq_findings.proofs.place.put_place.Goals as goal

pub returns-in_err-put_part-clause-part : goal.returns-in_err-put_part-clause-part
returns-in_err-put_part-clause-part g c =
    let place = c.args.place.now in
    let out = c.args.out.now.items in
    let new = c.put_part.new.out.items in
    OnErr-always c.from_residual.result (IsBegun (place_text place) out new)
    (IsBegun-at (λ (number : ℕ). 58 ∷ decimal number) place c.loop-number.number-index out c.loop-number.out.items new c.loop-number-test.true c.loop-number.invariant c.in_err-put_part.ensures.part)
