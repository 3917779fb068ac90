use Rattle.std.proofs.Common.{◌++◌, List, ℕ, ap, ◌∙◌, arith}
use Rattle.std.specs.Prelude.{flat_map}
use Rattle.std.proofs.lemmas.List.{take_all}
use Rattle.wq_dot.specs.Tooltips.{escaped}
use Rattle.wq_dot.proofs.tooltip.put_all_escaped.Goals as goal

pub returns : goal.returns
returns g c =
    let bytes = c.args.bytes.now in
    c.loop-byte.invariant
    ∙ ap (λ (bs : List ℕ). c.args.out.now.items ++ flat_map escaped bs) (take_all c.loop-byte.byte-index bytes (omega (arith, c.loop-byte-test.false, c.loop-byte.auto.byte-index-end)))
