use Rattle.std.proofs.Common.{◌<◌, ℕ, List, map, sym, ap, subst, ◌∙◌}
use Rattle.std.specs.List.{All}
use Rattle.wq_buckets.specs.Places.{buckets_of}
use Rattle.wq_graph.specs.declared.arc.WaitArc.{WaitArc}
use Rattle.wq_levels.specs.Taking.{heads_of}
use Rattle.wq_levels.proofs.Beside.{heads_of-below}
use Rattle.wq_levels.proofs.incoming.Incoming.new.Goals as goal

pub new-requires-clause-keys : goal.new-requires-clause-keys
new-requires-clause-keys g c =
    let heads = c.deref.ensures.value ∙ c.in_ok-heads.ensures ∙ ap (map (λ (a : WaitArc). a.head)) c.all.ensures.arcs in
    subst (λ (ks : List ℕ). All (λ k. k < c.vertices.result) ks) (sym heads)
    (subst (λ n. All (λ k. k < n) (heads_of c.args.graph.now)) (sym c.vertices.ensures.vertices) (heads_of-below c.args.graph.now c.vertices.ensures.graph))

pub returns-clause-places : goal.returns-clause-places
returns-clause-places g c =
    let heads = c.deref.ensures.value ∙ c.in_ok-heads.ensures ∙ ap (map (λ (a : WaitArc). a.head)) c.all.ensures.arcs in
    c.in_ok-places.ensures.buckets ∙ ap (λ (ks : List ℕ). buckets_of ks c.vertices.result) heads ∙ ap (buckets_of (heads_of c.args.graph.now)) c.vertices.ensures.vertices
