use Rattle.std.proofs.Common.{◌≡◌, ◌<◌, ◌∷◌, [], ◌++◌, ℕ, List, length, map, take, sym, ap, ◌∙◌, arith}
use Rattle.std.proofs.lemmas.List.{length-map, map_push, take_more}
use Rattle.wq_graph.specs.declared.arc.WaitArc.{WaitArc}
use Rattle.wq_circles.specs.Lists.{head_lists, listed_at}
use Rattle.wq_circles.proofs.Turned.{listed_at-head_lists}
use Rattle.wq_circles.proofs.lists.heads.Goals as goal

pub loop-v-preserved : goal.loop-v-preserved
loop-v-preserved g c =
    let graph = c.args.graph.now in
    let before : List (List ℕ) = take c.loop-v.v (head_lists graph) in
    let within : c.loop-v.v < length (head_lists graph) = omega (arith, c.loop-v-test.true, c.vertices-vertices.ensures.vertices, length-map graph (map (λ (a : WaitArc). a.head))) in
    let own : c.in_ok-arc_heads.field-0.items ≡ listed_at (head_lists graph) c.loop-v.v =
    c.in_ok-arc_heads.ensures ∙ ap (map (λ (a : WaitArc). a.head)) c.arcs.ensures ∙ sym (listed_at-head_lists graph c.loop-v.v) in
    ap (map (λ list. list.items)) c.in_ok-push.ensures.items
    ∙ map_push (λ list. list.items) c.loop-v.lists.items c.in_ok-arc_heads.field-0
    ∙ ap (λ (l : List (List ℕ)). l ++ (c.in_ok-arc_heads.field-0.items ∷ [])) c.loop-v.invariant
    ∙ ap (λ (l : List ℕ). before ++ (l ∷ [])) own
    ∙ sym (take_more (head_lists graph) c.loop-v.v [] within)
