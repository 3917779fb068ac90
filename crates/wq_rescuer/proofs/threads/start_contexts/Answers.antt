use Rattle.std.proofs.Common.{refl, sym, ap, ◌∙◌, length, arith}
use Rattle.wq_rescuer.proofs.Doing.{none_taken, taken_more, all_taken}
use Rattle.wq_rescuer.proofs.Handovers.{nothing_in}
use Rattle.wq_rescuer.proofs.threads.start_contexts.Goals as goal

pub loop-job-init : goal.loop-job-init
loop-job-init g c = (
  none_taken _ c.args.waiting.now.items c.args.threads.now.items c.requires.none,
  omega (arith, ap length c.requires.none, c.args.threads.now.ok.0),
  refl,
)

pub loop-job-preserved : goal.loop-job-preserved
loop-job-preserved g c =
    let l = c.loop-job in (
      taken_more _ c.args.waiting.now.items l.waiting.items c.pop.new.self.items c.in-Some.job l.threads.items
          c.push_reserved.new.self.items c.in-Ok.thread l.invariant.0 c.in-Some.ensures.items
          c.push_reserved.ensures.items
          (ap (λ p. p.context) c.in-Ok.ensures.ok, ap (λ p. p.body.value) c.in-Ok.ensures.ok ∙ c.of.ensures),
      omega (arith, l.invariant.1, c.in-Some.ensures.cases, c.push_reserved.ensures.len),
      c.push_reserved.ensures.capacity ∙ l.invariant.2,
    )

pub returns-clause-all : goal.returns-clause-all
returns-clause-all g c all =
    let l = c.loop-job in
    all_taken _ c.args.waiting.now.items l.waiting.items l.threads.items l.invariant.0
    (nothing_in l.waiting.items (sym l.waiting.ok.0 ∙ c.in_default.ensures.cases.0))
