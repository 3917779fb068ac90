use Rattle.std.proofs.Common.{◌≡◌, ℕ, ◌<◌, length, refl, sym, ap, subst, ◌∙◌, arith}
use Rattle.std.specs.Prelude.{None, slice_index_or}
use Rattle.std.specs.Option.{is_some}
use Rattle.std.proofs.lemmas.Bool.{false≢true}
use Rattle.std.proofs.lemmas.List.{get_or_default}
use Rattle.wq_repair.specs.Placing.{AreTaken}
use Rattle.wq_repair.proofs.PlacedSteps.{some_lane, no_lane, AreTaken-none, AreTakenSoFar-skip, AreTakenSoFar-take}
use Rattle.wq_repair.proofs.placing.take_lanes.Goals as goal

pub loop-rank-init : goal.loop-rank-init
loop-rank-init c = record { took = AreTaken-none c.args.leave.now c.args.empty.now c.args.there c.args.of_rank.now; rest = λ r le. refl }

pub loop-rank-preserved-then-not-does_leave : goal.loop-rank-preserved-then-not-does_leave
loop-rank-preserved-then-not-does_leave c =
    AreTakenSoFar-skip c.args.leave.now c.args.empty.now c.args.there c.loop-rank.rank c.args.of_rank.now c.loop-rank.of_rank c.loop-rank.taken c.loop-rank.invariant
    (λ marked. absurd (false≢true (sym c.if-not-does_leave.true ∙ marked)))

pub loop-rank-preserved-then-is_some : goal.loop-rank-preserved-then-is_some
loop-rank-preserved-then-is_some c =
    let before = c.loop-rank.of_rank in
    let r = c.loop-rank.rank in
    let own = get_or_default before r None c.index-of_rank-rank.result
    (omega (arith, c.loop-rank-test.true, c.requires.one_each, c.loop-rank.invariant.took.one_each)) in
    AreTakenSoFar-skip c.args.leave.now c.args.empty.now c.args.there r c.args.of_rank.now before c.loop-rank.taken
    c.loop-rank.invariant
    (λ marked. some_lane (slice_index_or before r None) (ap is_some own ∙ sym c.is_some.ensures ∙ c.if-is_some.true))

pub nth_lane-requires-clause-few : goal.nth_lane-requires-clause-few
nth_lane-requires-clause-few c = omega (arith, c.loop-rank.invariant.took.few, c.loop-rank-test.true, c.requires.few)

pub overflow_add-taken : goal.overflow_add-taken
overflow_add-taken c = omega (arith, c.loop-rank.invariant.took.few, c.loop-rank-test.true, c.requires.few)

pub loop-rank-preserved : goal.loop-rank-preserved
loop-rank-preserved c =
    let before = c.loop-rank.of_rank in
    let r = c.loop-rank.rank in
    let within : r < length before =
    omega (arith, c.loop-rank-test.true, c.requires.one_each, c.loop-rank.invariant.took.one_each) in
    let own = get_or_default before r None c.index-of_rank-rank.result within in
    AreTakenSoFar-take c.args.leave.now c.args.empty.now c.args.there r c.args.of_rank.now before c.loop-rank.taken
    c.loop-rank.invariant c.requires.free c.if-not-does_leave.false
    (no_lane (slice_index_or before r None) (ap is_some own ∙ sym c.is_some.ensures ∙ c.if-is_some.false)) within
    c.nth_lane.result c.nth_lane.ensures

pub returns : goal.returns
returns c =
    let all : c.loop-rank.rank ≡ length c.args.leave.now = omega (arith, c.loop-rank-test.false, c.loop-rank.auto.rank-end) in
    subst (λ (n : ℕ). AreTaken c.args.leave.now c.args.empty.now c.args.there n c.args.of_rank.now c.loop-rank.of_rank c.loop-rank.taken) all c.loop-rank.invariant.took
