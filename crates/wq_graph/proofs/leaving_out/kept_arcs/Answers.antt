use Rattle.std.proofs.Common.{◌≡◌, ◌++◌, ◌∷◌, [], List, sym, ap, ◌∙◌, arith}
use Rattle.std.proofs.lemmas.List.FromFn.{map-range_with_len_more}
use Rattle.wq_graph.specs.declared.arc.WaitArc.{WaitArc}
use Rattle.wq_graph.specs.Graph.{arcs_without}
use Rattle.wq_graph.proofs.leaving_out.kept_arcs.Goals as goal

pub loop-vertex-preserved : goal.loop-vertex-preserved
loop-vertex-preserved g c =
    let of = arcs_without c.args.left_out.now c.args.graph.now in
    let v = c.loop-vertex.vertex in
    let next : c.add_from.new.kept.next ≡ of v =
    c.in_ok-add_from.ensures.next ∙ ap (λ (l : List WaitArc). l ++ of v) c.loop-vertex.invariant.1 in (
      c.in_ok-end_piece.ensures.pieces
          ∙ ap (λ (l : List WaitArc). c.add_from.new.kept.pieces ++ (l ∷ [])) next
          ∙ ap (λ (l : List (List WaitArc)). l ++ (of v ∷ []))
          (c.in_ok-add_from.ensures.pieces ∙ c.loop-vertex.invariant.0)
          ∙ sym (map-range_with_len_more of 0 v v (omega arith)),
      c.in_ok-end_piece.ensures.next,
    )
