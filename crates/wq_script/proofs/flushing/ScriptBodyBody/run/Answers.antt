use Rattle.std.proofs.Common.{ap, subst, ◌∙◌}
use Rattle.std.specs.Prelude.{OnErr}
use Rattle.wq_items.specs.Table.{targets_of}
use Rattle.wq_script.specs.Scripts.{Script, CountsFirstWaits, CountsRun}
use Rattle.wq_script.proofs.flushing.ScriptBodyBody.run.Goals as goal

pub returns-clause-cut_off : goal.returns-clause-cut_off
returns-clause-cut_off g c =
    subst (λ targets. OnErr c.flush_each.result (CountsFirstWaits c.args.work.now.seat.now c.flush_each.new.work.seat.now targets))
    (c.waits.ensures ∙ ap (λ (b : Script). targets_of b.waits c.args.item) c.self.view_is) c.flush_each.ensures.cut_off

pub returns-clause-may : goal.returns-clause-may
returns-clause-may g c =
    subst (λ targets. CountsRun targets c.flush_each.result c.args.work.now.seat.now c.flush_each.new.work.seat.now)
    (c.waits.ensures ∙ ap (λ (b : Script). targets_of b.waits c.args.item) c.self.view_is) c.flush_each.ensures.run
