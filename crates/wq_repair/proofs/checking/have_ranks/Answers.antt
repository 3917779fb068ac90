use Rattle.std.proofs.Common.{◌≡◌, ℕ, inl, inr, length, sym, ap, subst, ◌∙◌, arith}
use Rattle.std.specs.Prelude.{slice_index}
use Rattle.std.specs.List.{Any}
use Rattle.std.proofs.lemmas.Bool.{cases_eq}
use Rattle.wq_graph.specs.declared.arc.WaitArc.{WaitArc}
use Rattle.wq_graph.specs.Graph.{HasArc}
use Rattle.wq_repair.proofs.Settling.{arc-from}
use Rattle.wq_repair.proofs.checking.have_ranks.Goals as goal

pub loop-number-preserved : goal.loop-number-preserved
loop-number-preserved g c =
    let graph = c.args.graph.now in
    let at = c.args.at.now in
    let ranks = c.args.ranks.now in
    let i = c.loop-number.number in
    let rank : c.rank_at-rank.result ≡ slice_index ranks i =
    c.rank_at-rank.ensures ∙ ap (slice_index ranks) c.new-group.ensures in
    let vertex : c.vertex_at-vertex.result ≡ slice_index at i =
    c.vertex_at-vertex.ensures ∙ ap (slice_index at) c.new-group.ensures in
    record {
      low = λ k lt. elim (cases_eq k i) [
        | inl last ↦ omega (arith, ap (slice_index ranks) last, rank, c.if-rank-ge-RANKS.false)
        | inr other ↦ c.loop-number.invariant.low k (omega (arith, lt, other))
      ];
      same = λ k lt. elim (cases_eq k i) [
        | inl last ↦
            ap (λ (x : ℕ). slice_index ranks (slice_index at x)) last
            ∙ ap (slice_index ranks) (sym vertex) ∙ sym c.rank_at.ensures
            ∙ c.if-rank_at-rank.false ∙ rank ∙ ap (slice_index ranks) (sym last)
        | inr other ↦ c.loop-number.invariant.same k (omega (arith, lt, other))
      ];
      fall = λ k h lt arc. elim (cases_eq k i) [
        | inl last ↦
            let here : HasArc graph i h = subst (λ (x : ℕ). HasArc graph x h) last arc in
            let lower = c.is_above.ensures c.if-not-is_above.false h
            (subst (Any (λ (b : WaitArc). b.head ≡ h)) (sym c.arcs.ensures) here) in
            omega (arith, lower, rank, ap (slice_index ranks) last)
        | inr other ↦ c.loop-number.invariant.fall k h (omega (arith, lt, other)) arc
      ];
    }

pub returns : goal.returns
returns g c =
    let graph = c.args.graph.now in
    let count : c.vertices-groups.result ≡ length graph = c.vertices-groups.ensures.vertices in
    λ yes. record {
      one_each = omega (arith, c.if-ranks-from.false, c.from.ensures, count);
      low = λ k lt. c.loop-number.invariant.low k (omega (arith, lt, count, c.loop-number-test.false));
      fall = λ k h arc. c.loop-number.invariant.fall k h
          (omega (arith, arc-from graph k h arc, count, c.loop-number-test.false)) arc;
      same = λ k lt. c.loop-number.invariant.same k (omega (arith, lt, count, c.loop-number-test.false));
    }
