use Rattle.std.proofs.Common.{◌<◌, List, length, refl, sym, arith}
use Rattle.std.specs.Prelude.{Contains}
use Rattle.wq_hang.specs.declared.hop.Hop.{Hop}
use Rattle.wq_hang.proofs.Declared.{declared-item}
use Rattle.wq_hang.proofs.SettledFor.{IsHeldSettled-none, IsHeldSettled-more, AreFirstAlike-held, HoldsUp-alike}
use Rattle.wq_hang.proofs.SettledFor.{cost_for-alike}
use Rattle.wq_hang.proofs.FewestFor.{walk_for_hop}
use Rattle.wq_hang.proofs.settling.settle_held.Goals as goal

pub loop-at-init : goal.loop-at-init
loop-at-init g c = IsHeldSettled-none c.args.waits.now c.args.hops.now
    (λ h there. (walk_for_hop c.args.waits.now c.args.named c.args.hops.now c.requires h there).declared)

pub first_alike-hop-requires-clause-item : goal.first_alike-hop-requires-clause-item
first_alike-hop-requires-clause-item g c =
    let v = c.args.waits.now in
    let hops : List Hop = c.loop-at.hops in
    let h : Hop = c.index-hops-at.result in
    let lt : c.loop-at.at < length hops = omega (arith, c.loop-at-test.true, c.loop-at.invariant.len) in
    let there : Contains hops h = (c.loop-at.at, lt, sym c.index-hops-at.is) in
    declared-item v h.item h.flush (c.loop-at.invariant.declared h there)

pub first_alike-hop-requires-clause-declared : goal.first_alike-hop-requires-clause-declared
first_alike-hop-requires-clause-declared g c =
    let hops : List Hop = c.loop-at.hops in
    let h : Hop = c.index-hops-at.result in
    let lt : c.loop-at.at < length hops = omega (arith, c.loop-at-test.true, c.loop-at.invariant.len) in
    c.loop-at.invariant.declared h (c.loop-at.at, lt, sym c.index-hops-at.is)

pub loop-at-preserved : goal.loop-at-preserved
loop-at-preserved g c =
    let v = c.args.waits.now in
    let hops : List Hop = c.loop-at.hops in
    let h : Hop = c.index-hops-at.result in
    let lt : c.loop-at.at < length hops = omega (arith, c.loop-at-test.true, c.loop-at.invariant.len) in
    IsHeldSettled-more v c.args.hops.now hops _ c.loop-at.at h c.first_alike-hop.result c.loop-at.invariant lt
    (sym c.index-hops-at.is) c.first_alike-hop.ensures.alike c.first_alike-hop.ensures.declared
    c.first_alike-hop.ensures.first refl

pub returns-clause-walk : goal.returns-clause-walk
returns-clause-walk g c =
    HoldsUp-alike c.args.waits.now c.args.named c.args.hops.now c.loop-at.hops c.loop-at.invariant.alike c.requires

pub returns-clause-cost : goal.returns-clause-cost
returns-clause-cost g c =
    cost_for-alike c.args.waits.now c.args.named c.args.hops.now c.loop-at.hops c.loop-at.invariant.alike

pub returns-clause-alike : goal.returns-clause-alike
returns-clause-alike g c =
    AreFirstAlike-held c.args.waits.now c.args.hops.now c.loop-at.hops c.loop-at.at c.loop-at.invariant
    (omega (arith, c.loop-at-test.false, c.loop-at.invariant.len))

pub returns-clause-len : goal.returns-clause-len
returns-clause-len g c = c.loop-at.invariant.len
