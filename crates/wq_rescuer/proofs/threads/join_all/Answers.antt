use Rattle.std.proofs.Common.{refl, sym, ap, ◌∙◌, length, arith}
use Rattle.wq_rescuer.proofs.Doing.{none_taken, taken_more, all_taken_back}
use Rattle.wq_rescuer.proofs.Handovers.{nothing_in}
use Rattle.wq_rescuer.proofs.threads.join_all.Goals as goal

pub loop-thread-init : goal.loop-thread-init
loop-thread-init g c = (
  none_taken _ c.args.threads.now.items c.args.ends.now.items c.requires.none,
  omega (arith, ap length c.requires.none, c.args.ends.now.ok.0),
  refl,
  refl,
)

pub loop-thread-preserved : goal.loop-thread-preserved
loop-thread-preserved g c =
    let l = c.loop-thread in (
      taken_more _ c.args.threads.now.items l.threads.items c.pop.new.self.items c.in-Some.thread l.ends.items
          c.push_reserved.new.self.items c.join.result l.invariant.0 c.in-Some.ensures.items
          c.push_reserved.ensures.items c.join.ensures,
      omega (arith, l.invariant.1, c.in-Some.ensures.cases, c.push_reserved.ensures.len),
      c.push_reserved.ensures.capacity ∙ l.invariant.2,
      c.pop.ensures.capacity ∙ l.invariant.3,
    )

pub returns-clause-kept : goal.returns-clause-kept
returns-clause-kept g c =
    let l = c.loop-thread in
    all_taken_back _ c.args.threads.now.items l.threads.items l.ends.items l.invariant.0
    (nothing_in l.threads.items (sym l.threads.ok.0 ∙ c.in_default.ensures.cases.0))

pub returns-clause-back : goal.returns-clause-back
returns-clause-back g c = (
  omega (arith, c.loop-thread.invariant.1, c.in_default.ensures.cases.0),
  omega (arith, c.in_default.ensures.len, c.in_default.ensures.cases.0),
)
