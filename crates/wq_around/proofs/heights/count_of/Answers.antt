use Rattle.std.proofs.Common.{◌≡◌, take, ap, arith}
use Rattle.std.proofs.lemmas.List.{take_all}
use Rattle.wq_plan.specs.Plan.{lanes_of}
use Rattle.wq_plan.proofs.Lanes.{lanes_of-above}
use Rattle.wq_around.proofs.heights.count_of.Goals as goal

pub returns-clause-above : goal.returns-clause-above
returns-clause-above c = λ k d fits.
    let all : take c.loop-number.number-index c.args.numbers.now ≡ c.args.numbers.now =
    take_all c.loop-number.number-index c.args.numbers.now (omega (arith, c.loop-number-test.false)) in
    omega (arith, lanes_of-above c.args.numbers.now k d fits, c.loop-number.invariant.0, ap lanes_of all)
