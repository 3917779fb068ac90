use Rattle.std.proofs.Common.{◌<◌, length, ap, ◌∙◌, arith}
use Rattle.wq_items.proofs.WaitLemmas.{OnErr-always}
use Rattle.wq_rescuer.specs.Contexts.{contexts_of}
use Rattle.wq_rescuer.proofs.ContextLemmas.{contexts_below, listed_more, some_context}
use Rattle.wq_rescuer.proofs.contexts.contexts_of.Goals as goal

pub loop-q-preserved : goal.loop-q-preserved
loop-q-preserved g c =
    listed_more g.N.Naming.wiring c.loop-q.q c.new-lane.result c.helpers_of.result c.loop-q.contexts.items _ c.in_ok-add_contexts_on.ensures c.helpers_of.ensures c.new-lane.ensures c.loop-q.invariant

pub returns-in_err-add_contexts_on-clause-memory : goal.returns-in_err-add_contexts_on-clause-memory
returns-in_err-add_contexts_on-clause-memory g c =
    let within : c.loop-q.q < g.N.Naming.wiring.lanes = omega (arith, c.loop-q-test.true, c.loop-q.auto.q-end, c.lanes-q-end.ensures.lanes) in
    OnErr-always c.from_residual-in_err-add_contexts_on.result (0 < length (contexts_of g.N.Naming.wiring))
    (some_context g.N.Naming.wiring c.loop-q.q within)

pub returns-clause-contexts : goal.returns-clause-contexts
returns-clause-contexts g c =
    c.loop-q.invariant ∙ ap (contexts_below g.N.Naming.wiring) (omega (arith, c.loop-q-test.false, c.loop-q.auto.q-end, c.lanes-q-end.ensures.lanes))
