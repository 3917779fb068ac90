use Rattle.std.proofs.Common.{rules, sym, ◌∙◌}
use Rattle.wq_rescuer.proofs.Handovers.{nothing_in}
use Rattle.wq_rescuer.proofs.Making.{none_made, all_made}
use Rattle.wq_rescuer.proofs.board.add_callers.Goals as goal

pub loop-caller-init : goal.loop-caller-init
loop-caller-init g c = (
  search rules,
  search rules,
  search rules,
  search rules,
  search rules,
  search rules,
  none_made (λ job. job.caller) c.args.callers.now.items c.args.jobs.now.items c.requires.none,
)

pub returns-clause-callers : goal.returns-clause-callers
returns-clause-callers g c =
    let l = c.loop-caller in
    all_made (λ job. job.caller) c.args.callers.now.items l.jobs.items l.callers.items l.invariant.6
    (nothing_in l.callers.items (sym l.callers.ok.0 ∙ c.in_default.ensures.cases.0))
