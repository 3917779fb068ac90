use Rattle.std.proofs.Common.{length, sym, ap, subst, ◌∙◌, arith}
use Rattle.wq_core.specs.Runs.{IsRunFrom}
use Rattle.wq_core.specs.State.{State}
use Rattle.wq_core.specs.Played.{queue_order}
use Rattle.wq_core.proofs.KnotRuns.{IsRun-queue_order}
use Rattle.wq_deadlock.proofs.Queueings.{length-queue_order}
use Rattle.wq_deadlock.proofs.hanging.hanging_run.Goals as goal

pub make_all-requires-clause-run : goal.make_all-requires-clause-run
make_all-requires-clause-run g c =
    let w = c.args.core.wiring in
    let run = IsRun-queue_order w c.args.first.now c.items-items.ensures.machine.wiring c.requires.knot in
    rw (c.as_slice.ensures.value, c.in_ok-steps.ensures) (subst (λ (s : State). IsRunFrom w s (queue_order w c.args.first.now)) (sym c.requires.empty) run)

pub make_all-requires-clause-numbers : goal.make_all-requires-clause-numbers
make_all-requires-clause-numbers g c =
    let w = c.args.core.wiring in
    let none = ap (λ (s : State). s.next) c.requires.empty in
    let count = ap length (c.as_slice.ensures.value ∙ c.in_ok-steps.ensures) in
    omega (arith, none, count, length-queue_order w c.args.first.now, c.requires.few, c.items-items.ensures.machine.few_items)
