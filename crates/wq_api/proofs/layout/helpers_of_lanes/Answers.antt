use Rattle.std.proofs.Common.{ℕ, List, [], ◌∷◌, ◌++◌, map, sym, ap, ◌∙◌, arith}
use Rattle.std.specs.List.{range_with_len}
use Rattle.std.proofs.lemmas.List.FromFn.{map-range_with_len_more}
use Rattle.wq_history.proofs.Words.{helpers_of}
use Rattle.wq_api.proofs.layout.helpers_of_lanes.Goals as goal

pub loop-q-preserved : goal.loop-q-preserved
loop-q-preserved g c =
    let helpers = helpers_of g.N.Naming.wiring in
    let q = c.loop-q.q in
    let before = c.loop-q.helpers.items in (
      c.push_reserved.ensures.items
          ∙ (ap (λ (xs : List ℕ). xs ++ (c.helpers_of.result ∷ [])) c.loop-q.invariant.0
          ∙ (ap (λ (h : ℕ). map helpers (range_with_len 0 q) ++ (h ∷ [])) (c.helpers_of.ensures ∙ ap helpers c.new.ensures)
          ∙ sym (map-range_with_len_more helpers 0 q q (omega arith)))),
      omega (arith, c.push_reserved.ensures.len, c.loop-q.invariant.1),
      omega (arith, c.push_reserved.ensures.capacity, c.loop-q.invariant.2),
    )
