use Rattle.std.proofs.Common.{◌≡◌, ◌++◌, ℕ, List, length, replicate, sym, ap, ◌∙◌, arith}
use Rattle.wq_graph.specs.declared.arc.WaitArc.{WaitArc}
use Rattle.wq_levels.proofs.Beside.{tails_below, tails_below-more}
use Rattle.wq_levels.proofs.incoming.tails.Goals as goal

pub loop-v-preserved : goal.loop-v-preserved
loop-v-preserved g c =
    let graph = c.args.graph.now in
    let v : ℕ = c.loop-v.v in
    c.in_ok-add_times.ensures
    ∙ ap (λ (l : List ℕ). l ++ replicate (length c.arcs.result.now) v) c.loop-v.invariant
    ∙ ap (λ (arcs : List WaitArc). tails_below graph v ++ replicate (length arcs) v) c.arcs.ensures
    ∙ sym (tails_below-more graph v)

pub returns : goal.returns
returns g c =
    let all : c.loop-v.v ≡ length c.args.graph.now = omega (arith, c.loop-v-test.false, c.loop-v.auto.v-end, c.vertices-v-end.ensures.vertices) in
    c.loop-v.invariant ∙ ap (tails_below c.args.graph.now) all
