use Rattle.std.proofs.Common.{◌-◌, ◌<◌, ◌≤◌, inl, inr, ℕ, length, take, drop, subst, arith}
use Rattle.std.proofs.lemmas.List.Elements.{All-weaker, All-take, All-drop}
use Rattle.wq_core.specs.Wiring.{items}
use Rattle.wq_hang.specs.EndsFor.{IsField}
use Rattle.wq_hang.proofs.Taken.{contains_all, contains_piece}
use Rattle.wq_hang.proofs.EndsFound.{NoneFrom-less, NoneFrom-below}
use Rattle.wq_hang.proofs.least_for.Field.look_from_items.Goals as goal

pub loop-from-init : goal.loop-from-init
loop-from-init g c = (omega arith, c.requires.best, omega arith, λ i there. absurd (omega (arith, there.1)))

pub may_be_better-requires : goal.may_be_better-requires
may_be_better-requires g c =
    let f = c.args.self.now in
    let near = c.args.near.now in
    let from : ℕ = c.loop-from.from in
    let n : ℕ = c.min-to.result - from in
    let field : IsField c.self.inside.on.now f = subst (IsField c.self.inside.on.now) c.self.view_is c.self.invariant in
    record {
      few = All-weaker (λ i. i < items f.wiring) (λ i. i < length f.ways.costs)
          (λ i below. omega (arith, below, field.ways.reach.one_each)) (take n (drop from near))
          (All-take (λ i. i < items f.wiring) n (drop from near)
          (All-drop (λ i. i < items f.wiring) from near c.requires.near));
      low = c.requires.least.1;
    }

pub look_from-requires-clause-few : goal.look_from-requires-clause-few
look_from-requires-clause-few g c =
    let w = c.args.self.now.wiring in
    let near = c.args.near.now in
    let from : ℕ = c.loop-from.from in
    All-take (λ i. i < items w) (c.min-to.result - from) (drop from near)
    (All-drop (λ i. i < items w) from near c.requires.near)

pub loop-from-preserved-in_ok-look_from : goal.loop-from-preserved-in_ok-look_from
loop-from-preserved-in_ok-look_from g c =
    let f = c.args.self.now in
    let near = c.args.near.now in
    let from : ℕ = c.loop-from.from in
    let to : ℕ = c.min-to.result in
    let old = c.loop-from.best in
    let new = c.look_from.new.best in
    let so_far = c.loop-from.invariant in
    let ends = c.in_ok-look_from.ensures in
    let le : from ≤ to = omega (arith, c.min-to.ensures, c.loop-from-test.true) in (
      omega (arith, c.min-to.ensures),
      ends.best,
      omega (arith, ends.less, so_far.2),
      λ i there. elim (contains_piece near from to i le there) [
        | inl before ↦ NoneFrom-less f old.cost new.cost i ends.less (so_far.3 i before)
        | inr here ↦ ends.none i here
      ],
    )

pub loop-from-preserved : goal.loop-from-preserved
loop-from-preserved g c =
    let f = c.args.self.now in
    let near = c.args.near.now in
    let from : ℕ = c.loop-from.from in
    let to : ℕ = c.min-to.result in
    let old = c.loop-from.best in
    let so_far = c.loop-from.invariant in
    let le : from ≤ to = omega (arith, c.min-to.ensures, c.loop-from-test.true) in (
      omega (arith, c.min-to.ensures),
      so_far.1,
      so_far.2,
      λ i there. elim (contains_piece near from to i le there) [
        | inl before ↦ so_far.3 i before
        | inr here ↦ NoneFrom-below f old.cost i c.args.least c.requires.least.0
            (c.may_be_better.ensures c.if-may_be_better.false i here)
      ],
    )

pub returns : goal.returns
returns g c = record {
  best = c.loop-from.invariant.1;
  less = c.loop-from.invariant.2;
  none = λ i there. c.loop-from.invariant.3 i (contains_all c.args.near.now c.loop-from.from i c.loop-from-test.false
      there);
}
