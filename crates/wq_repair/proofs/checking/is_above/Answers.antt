use Rattle.std.proofs.Common.{ℕ, ◌<◌, inl, inr, sym, ap, subst, arith}
use Rattle.std.specs.Prelude.{slice_index}
use Rattle.wq_graph.specs.declared.arc.WaitArc.{WaitArc}
use Rattle.wq_repair.proofs.NeededFound.{HeadBelow-last}
use Rattle.wq_repair.proofs.checking.is_above.Goals as goal

pub loop-arc-preserved : goal.loop-arc-preserved
loop-arc-preserved c =
    let arcs = c.args.arcs.now in
    let ranks = c.args.ranks.now in
    let a : WaitArc = c.arc-item.result in
    λ h below.
    elim (HeadBelow-last arcs c.loop-arc.arc-index a c.loop-arc-test.true c.arc-item.is h below) [
      | inl before ↦ c.loop-arc.invariant h before
      | inr same ↦ subst (λ (x : ℕ). slice_index ranks x < c.args.rank) (sym same)
          (omega (arith, c.if-rank-rank_at.false, c.rank_at.ensures, ap (slice_index ranks) c.new.ensures))
    ]

pub returns : goal.returns
returns c = λ yes h any.
    c.loop-arc.invariant h (any.0, any.1, omega (arith, any.2, c.loop-arc-test.false), any.3, any.4)
