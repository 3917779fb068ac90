use Rattle.std.proofs.Common.{rules, sym, ◌∙◌, arith}
use Rattle.wq_rescuer.proofs.Handovers.{nothing_in}
use Rattle.wq_rescuer.proofs.Making.{none_made, made_more, all_made}
use Rattle.wq_rescuer.proofs.board.add_contexts.Goals as goal

pub loop-body-init : goal.loop-body-init
loop-body-init g c = (
  search rules,
  search rules,
  search rules,
  search rules,
  search rules,
  search rules,
  search rules,
  search rules,
  search rules,
  search rules,
  none_made (λ job. job.context) c.args.contexts.now.items c.args.jobs.now.items c.requires.none,
  none_made (λ job. job.body) c.args.bodies.now.items c.args.jobs.now.items c.requires.none,
)

pub returns-clause-contexts : goal.returns-clause-contexts
returns-clause-contexts g c =
    let l = c.loop-body in
    all_made (λ job. job.context) c.args.contexts.now.items l.jobs.items l.contexts.items l.invariant.10
    (nothing_in l.contexts.items (omega (arith, l.contexts.ok.0, l.invariant.9, c.in_default.ensures.cases.0)))

pub returns-clause-bodies : goal.returns-clause-bodies
returns-clause-bodies g c =
    let l = c.loop-body in
    all_made (λ job. job.body) c.args.bodies.now.items l.jobs.items l.bodies.items l.invariant.11
    (nothing_in l.bodies.items (sym l.bodies.ok.0 ∙ c.in_default.ensures.cases.0))
