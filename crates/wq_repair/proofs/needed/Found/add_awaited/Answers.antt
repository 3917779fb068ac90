use Rattle.std.proofs.Common.{◌≡◌, ℕ, ◌+◌, sym, ap, arith}
use Rattle.wq_graph.specs.declared.arc.WaitArc.{WaitArc}
use Rattle.std.specs.List.{Any}
use Rattle.wq_repair.proofs.NeededFound.{HeadBelow, HeadBelow-last, HasGrown-none, HasGrown-then, HasGrown-as}
use Rattle.wq_repair.proofs.needed.Found.add_awaited.Goals as goal

pub loop-arc-init : goal.loop-arc-init
loop-arc-init g c = HasGrown-none c.args.self.now (HeadBelow c.args.arcs.now 0) (λ h below. absurd (omega (arith, below.2)))

pub add-requires : goal.add-requires
add-requires g c =
    let a : WaitArc = c.arc-item.result in
    let within = c.requires c.loop-arc.arc-index a c.loop-arc-test.true in
    omega (arith, c.new.ensures, within, ap (λ (x : WaitArc). x.head) c.arc-item.is, c.loop-arc.invariant.one_each)

pub loop-arc-preserved : goal.loop-arc-preserved
loop-arc-preserved g c =
    let arcs = c.args.arcs.now in
    let i = c.loop-arc.arc-index in
    let a : WaitArc = c.arc-item.result in
    HasGrown-then c.args.self.now c.loop-arc.self c.add.new.self (HeadBelow arcs i) (λ (h : ℕ). h ≡ a.head)
    (HeadBelow arcs (i + 1)) c.loop-arc.invariant (rw c.new.ensures at c.in_ok-add.ensures)
    (λ h below. (below.0, below.1, omega (arith, below.2), below.3, below.4))
    (λ h same. (i, a, omega arith, sym c.arc-item.is, sym same))
    (HeadBelow-last arcs i a c.loop-arc-test.true c.arc-item.is)

pub returns : goal.returns
returns g c =
    let arcs = c.args.arcs.now in
    let i = c.loop-arc.arc-index in
    HasGrown-as c.args.self.now c.loop-arc.self (HeadBelow arcs i) (λ (h : ℕ). Any (λ (a : WaitArc). a.head ≡ h) arcs) c.loop-arc.invariant
    (λ h below. (below.0, below.1, omega (arith, below.2, c.loop-arc.auto.arc-index-end), below.3, below.4))
    (λ h any. (any.0, any.1, omega (arith, any.2, c.loop-arc-test.false), any.3, any.4))
