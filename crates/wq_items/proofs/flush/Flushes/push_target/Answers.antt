use Rattle.std.proofs.Common.{length, ap, ◌∙◌, arith}
use Rattle.wq_items.proofs.WaitLemmas.{length-waits_of, waits_of-added, below-added, count-added}
use Rattle.wq_items.proofs.flush.Flushes.push_target.Goals as goal

pub overflow_cast-i : goal.overflow_cast-i
overflow_cast-i g c =
    omega (
      arith,
      c.requires,
      ap length c.self.view_is,
      length-waits_of c.self.inside.flushes.items c.self.inside.items,
    )

pub invariant_of-self-2 : goal.invariant_of-self-2
invariant_of-self-2 g c =
    let s = c.self.inside in
    let more = c.in_ok-push.ensures.ok in (
      below-added s.flushes.items c.push.new.flushes.items s.items c.args.i c.new.result c.args.target
          c.args.self.now c.self.view_is c.requires c.new.ensures more c.self.invariant.0,
      count-added s.flushes.items c.push.new.flushes.items s.items c.args.i c.new.result c.args.target
          c.args.self.now c.self.view_is c.requires c.new.ensures more c.self.invariant.1,
    )

pub returns-clause-ok : goal.returns-clause-ok
returns-clause-ok g c =
    let s = c.self.inside in
    waits_of-added s.flushes.items c.push.new.flushes.items s.items c.args.i c.new.result c.args.target
    c.args.self.now c.self.view_is c.requires c.new.ensures c.in_ok-push.ensures.ok
