use Rattle.std.proofs.Common.{◌<◌, List, length, refl, sym, arith}
use Rattle.std.specs.Prelude.{Contains}
use Rattle.wq_hang.specs.declared.hop.Hop.{Hop}
use Rattle.wq_hang.specs.Walk.{IsHop}
use Rattle.wq_hang.proofs.Declared.{declared-item}
use Rattle.wq_hang.proofs.Shortest.{path_hop}
use Rattle.wq_hang.proofs.SettledHops.{IsSettled-none, IsSettled-more, AreFirstAlike-settled}
use Rattle.wq_hang.proofs.settling.put_first_alike.Goals as goal

pub loop-at-init : goal.loop-at-init
loop-at-init g c = IsSettled-none c.args.waits.now c.args.hops.now c.requires

pub first_alike-hop-requires-clause-item : goal.first_alike-hop-requires-clause-item
first_alike-hop-requires-clause-item g c =
    let v = c.args.waits.now in
    let hops : List Hop = c.loop-at.hops in
    let h : Hop = c.index-hops-at.result in
    let round = c.loop-at.invariant.round in
    let lt : c.loop-at.at < length hops = omega (arith, c.loop-at-test.true, c.loop-at.invariant.len) in
    let there : Contains hops h = (c.loop-at.at, lt, sym c.index-hops-at.is) in
    let hop : IsHop v h = (path_hop v round.first round.first hops round.path h there).0 in
    declared-item v h.item h.flush hop.declared

pub first_alike-hop-requires-clause-declared : goal.first_alike-hop-requires-clause-declared
first_alike-hop-requires-clause-declared g c =
    let v = c.args.waits.now in
    let hops : List Hop = c.loop-at.hops in
    let h : Hop = c.index-hops-at.result in
    let round = c.loop-at.invariant.round in
    let lt : c.loop-at.at < length hops = omega (arith, c.loop-at-test.true, c.loop-at.invariant.len) in
    let there : Contains hops h = (c.loop-at.at, lt, sym c.index-hops-at.is) in
    let hop : IsHop v h = (path_hop v round.first round.first hops round.path h there).0 in
    hop.declared

pub loop-at-preserved : goal.loop-at-preserved
loop-at-preserved g c =
    let v = c.args.waits.now in
    let hops : List Hop = c.loop-at.hops in
    let h : Hop = c.index-hops-at.result in
    let lt : c.loop-at.at < length hops = omega (arith, c.loop-at-test.true, c.loop-at.invariant.len) in
    IsSettled-more v c.args.hops.now hops _ c.loop-at.at h c.first_alike-hop.result c.loop-at.invariant lt
    (sym c.index-hops-at.is) c.first_alike-hop.ensures.alike c.first_alike-hop.ensures.declared
    c.first_alike-hop.ensures.first refl

pub returns-clause-alike : goal.returns-clause-alike
returns-clause-alike g c =
    AreFirstAlike-settled c.args.waits.now c.args.hops.now c.loop-at.hops c.loop-at.at c.loop-at.invariant
    (omega (arith, c.loop-at-test.false, c.loop-at.invariant.len))
