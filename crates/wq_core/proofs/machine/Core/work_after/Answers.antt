use Rattle.std.proofs.Common.{ℕ, ap, ◌∙◌, arith}
use Rattle.wq_core.specs.State.{lane_at, run_by}
use Rattle.wq_core.specs.Work.{running_work}
use Rattle.wq_core.specs.declared.step.Step.TheVariants.{Help}
use Rattle.wq_core.proofs.WorkChanges.{work_after-queued, work_after-cancelled, work_after-one, work_after-finished, work_after-removed}
use Rattle.wq_core.proofs.WorkBounds.{work_left-machine, work_left-after}
use Rattle.wq_core.proofs.machine.Core.work_after.Goals as goal

pub overflow_add-result : goal.overflow_add-result
overflow_add-result g c =
    let m = c.args.self.now in
    let machine = c.items-items.ensures.machine in
    omega (arith, c.requires.work, work_left-machine m machine, c.whole_work.ensures.few)

pub whole_work-requires-in-Cancel : goal.whole_work-requires-in-Cancel
whole_work-requires-in-Cancel g c =
    let m = c.args.self.now in
    let machine = c.items-items.ensures.machine in
    (work_after-cancelled m.wiring m.state machine.state machine.few_helpers c.args.step.now c.requires.lawful c.in-Cancel.item c.in-Cancel.is).0

pub overflow_sub-result-in-Start : goal.overflow_sub-result-in-Start
overflow_sub-result-in-Start g c =
    let m = c.args.self.now in
    let machine = c.items-items.ensures.machine in
    omega (arith, c.requires.work, work_after-one m.wiring m.state machine.state machine.few_helpers c.args.step.now c.requires.lawful c.in-Start.is)

pub returns-in-Queue-clause-work : goal.returns-in-Queue-clause-work
returns-in-Queue-clause-work g c =
    let m = c.args.self.now in
    let machine = c.items-items.ensures.machine in
    omega (arith, c.requires.work, (work_after-queued m.wiring m.state machine.state machine.few_helpers c.args.step.now c.requires.lawful c.in-Queue.item machine.wiring c.in-Queue.is).1, c.whole_work.ensures.work)

pub returns-in-Queue-clause-few : goal.returns-in-Queue-clause-few
returns-in-Queue-clause-few g c =
    let m = c.args.self.now in
    let machine = c.items-items.ensures.machine in
    omega (arith, c.requires.work, (work_after-queued m.wiring m.state machine.state machine.few_helpers c.args.step.now c.requires.lawful c.in-Queue.item machine.wiring c.in-Queue.is).1, c.whole_work.ensures.work, work_left-after m c.args.step.now machine c.requires.lawful)

pub returns-in-Cancel-clause-work : goal.returns-in-Cancel-clause-work
returns-in-Cancel-clause-work g c =
    let m = c.args.self.now in
    let machine = c.items-items.ensures.machine in
    omega (arith, c.requires.work, (work_after-cancelled m.wiring m.state machine.state machine.few_helpers c.args.step.now c.requires.lawful c.in-Cancel.item c.in-Cancel.is).1, c.whole_work-in-Cancel.ensures.work)

pub returns-in-Cancel-clause-few : goal.returns-in-Cancel-clause-few
returns-in-Cancel-clause-few g c =
    let m = c.args.self.now in
    let machine = c.items-items.ensures.machine in
    omega (arith, c.requires.work, work_left-machine m machine)

pub returns-in-Start-clause-work : goal.returns-in-Start-clause-work
returns-in-Start-clause-work g c =
    let m = c.args.self.now in
    let machine = c.items-items.ensures.machine in
    omega (arith, c.requires.work, work_after-one m.wiring m.state machine.state machine.few_helpers c.args.step.now c.requires.lawful c.in-Start.is)

pub returns-in-Start-clause-few : goal.returns-in-Start-clause-few
returns-in-Start-clause-few g c =
    let m = c.args.self.now in
    let machine = c.items-items.ensures.machine in
    omega (arith, c.requires.work, work_left-machine m machine)

pub returns-in-Finish-clause-work : goal.returns-in-Finish-clause-work
returns-in-Finish-clause-work g c =
    let m = c.args.self.now in
    let machine = c.items-items.ensures.machine in
    let left =
    c.running_work.ensures.work
    ∙ ap (λ (h : ℕ). running_work m.wiring (run_by (lane_at m.state c.rescuer.result.lane) h)) c.rescuer.ensures.number
    ∙ ap (λ (q : ℕ). running_work m.wiring (run_by (lane_at m.state q) 0)) c.rescuer.ensures.lane in
    omega (
      arith,
      c.requires.work,
      left,
      work_after-finished m.wiring m.state machine.state machine.few_helpers c.args.step.now c.requires.lawful
          c.in-Finish.q c.in-Finish.field-1 c.in-Finish.is,
    )

pub returns-in-Finish-clause-few : goal.returns-in-Finish-clause-few
returns-in-Finish-clause-few g c =
    let m = c.args.self.now in
    let machine = c.items-items.ensures.machine in
    omega (arith, c.requires.work, work_left-machine m machine)

pub overflow_sub-result-in-Help : goal.overflow_sub-result-in-Help
overflow_sub-result-in-Help g c =
    let m = c.args.self.now in
    let machine = c.items-items.ensures.machine in
    omega (
      arith,
      c.requires.work,
      work_after-removed m.wiring m.state machine.state machine.few_helpers
          c.args.step.now c.requires.lawful (Help c.in-Help.lane c.in-Help.number c.in-Help.deed) c.in-Help.is tt,
      c.deed_work.ensures,
    )

pub returns-in-Help-clause-work : goal.returns-in-Help-clause-work
returns-in-Help-clause-work g c =
    let m = c.args.self.now in
    let machine = c.items-items.ensures.machine in
    omega (
      arith,
      c.requires.work,
      work_after-removed m.wiring m.state machine.state machine.few_helpers
          c.args.step.now c.requires.lawful (Help c.in-Help.lane c.in-Help.number c.in-Help.deed) c.in-Help.is tt,
      c.deed_work.ensures,
    )

pub returns-in-Help-clause-few : goal.returns-in-Help-clause-few
returns-in-Help-clause-few g c =
    let m = c.args.self.now in
    let machine = c.items-items.ensures.machine in
    omega (arith, c.requires.work, work_left-machine m machine)
