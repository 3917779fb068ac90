use Rattle.std.proofs.Common.{◌≡◌, length, ap, ◌∙◌, arith}
use Rattle.wq_core.specs.Wiring.{helpers_of}
use Rattle.wq_rescuer.proofs.ContextLemmas.{contexts_below, long_below-more}
use Rattle.wq_rescuer.proofs.contexts.count_contexts.Goals as goal

pub loop-q-preserved : goal.loop-q-preserved
loop-q-preserved g c =
    let w = g.N.Naming.wiring in
    let helpers : c.helpers_of.result ≡ helpers_of w c.loop-q.q = c.helpers_of.ensures ∙ ap (helpers_of w) c.new.ensures in (
      omega (arith, c.loop-q.invariant.0, helpers, c.from.ensures, long_below-more w c.loop-q.q),
      omega (arith, c.loop-q.invariant.1, c.from.ensures),
    )

pub returns-clause-count : goal.returns-clause-count
returns-clause-count g c =
    c.loop-q.invariant.0 ∙ ap (λ n. length (contexts_below g.N.Naming.wiring n)) (omega (arith, c.loop-q-test.false, c.loop-q.auto.q-end, c.lanes-q-end.ensures.lanes))
