use Rattle.std.proofs.Common.{inl, inr, length, ap, ◌∙◌, arith}
use Rattle.std.specs.Prelude.{slice_index}
use Rattle.wq_hang.specs.EndsFor.{Field}
use Rattle.wq_hang.proofs.Taken.{contains_more, contains_all}
use Rattle.wq_hang.proofs.least_for.Field.may_be_better.Goals as goal

pub cost-requires : goal.cost-requires
cost-requires g c =
    omega (
      arith,
      c.new.ensures,
      c.requires.few c.loop-item.item-index 0 c.loop-item-test.true,
      ap (λ (f : Field). length f.ways.costs) c.self.view_is,
    )

pub loop-item-preserved : goal.loop-item-preserved
loop-item-preserved g c = λ i there.
    elim (contains_more c.args.few.now c.loop-item.item-index 0 i c.loop-item-test.true there) [
      | inl before ↦ c.loop-item.invariant i before
      | inr same ↦ omega (
        arith,
        c.if-cost-least.false,
        c.cost.ensures,
        ap (slice_index c.self.inside.ways.now.costs) (c.new.ensures ∙ same),
      )
    ]

pub returns : goal.returns
returns g c = λ is i there.
    omega (
      arith,
      c.loop-item.invariant i (contains_all c.args.few.now c.loop-item.item-index i c.loop-item-test.false there),
      ap (λ (f : Field). slice_index f.ways.costs i) c.self.view_is,
    )
