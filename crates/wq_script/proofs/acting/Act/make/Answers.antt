use Rattle.std.proofs.Common.{subst, sym}
use Rattle.wq_script.specs.declared.acting.Act.{Act}
use Rattle.wq_script.specs.Acts.{CountsAct}
use Rattle.wq_script.proofs.acting.Act.make.Goals as goal

pub returns-in_ok-cancel_work_sync-in-CancelSync-clause-counted : goal.returns-in_ok-cancel_work_sync-in-CancelSync-clause-counted
returns-in_ok-cancel_work_sync-in-CancelSync-clause-counted g c =
    let counted = c.in_ok-cancel_work_sync-in-CancelSync.ensures.counted in
    subst (λ (act : Act). CountsAct g.N.Naming.wiring c.args.seat.now c.cancel_work_sync.new.seat act)
    (sym c.in-CancelSync.is)
    (counted.0, c.in_ok-cancel_work_sync-in-CancelSync.field-0, counted.2)
