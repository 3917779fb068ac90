use Rattle.std.proofs.Common.{ℕ, List, [], ◌∷◌, ◌++◌, ◌<◌, ◌≤◌, false, sym, subst, arith}
use Rattle.std.specs.Prelude.{slice_index}
use Rattle.wq_hang.specs.declared.hop.Hop.{Hop}
use Rattle.wq_hang.specs.WaysFor.{IsWay}
use Rattle.wq_hang.proofs.WaysFound.{IsTraceTo, IsTraceTo-none, IsTraceTo-next, IsWay-traced}
use Rattle.wq_hang.proofs.ways.way_to.Goals as goal

-- a hop where there is none
no_hop : Hop
no_hop = record { item = 0; flush = record { item = 0; whole = false; unsure = false; place = 0 }; next = 0 }

pub loop-at-init : goal.loop-at-init
loop-at-init g c =
    let w = c.args.waits.now in
    let s = c.args.ways.now in
    subst (IsTraceTo w s c.args.item c.args.item) (sym c.new-hops.ensures.items)
    (IsTraceTo-none w s c.args.item c.requires.item)

pub loop-at-preserved : goal.loop-at-preserved
loop-at-preserved g c =
    let w = c.args.waits.now in
    let s = c.args.ways.now in
    let r = c.requires.reached in
    let h : Hop = c.hop_to-hop.result in
    let more : 1 < slice_index s.costs c.loop-at.at = omega (arith, c.loop-at-test.true, c.cost.ensures) in
    subst (IsTraceTo w s c.args.item h.item) (sym c.in_ok-push.ensures.items)
    (IsTraceTo-next w r.0 r.1 s r.2 c.args.item r.3 c.loop-at.at c.loop-at.hops.items h c.hop_to-hop.ensures
    c.loop-at.invariant more).0

pub loop-at-smaller : goal.loop-at-smaller
loop-at-smaller g c =
    let w = c.args.waits.now in
    let s = c.args.ways.now in
    let r = c.requires.reached in
    let h : Hop = c.hop_to-hop.result in
    let more : 1 < slice_index s.costs c.loop-at.at = omega (arith, c.loop-at-test.true, c.cost.ensures) in
    (IsTraceTo-next w r.0 r.1 s r.2 c.args.item r.3 c.loop-at.at c.loop-at.hops.items h c.hop_to-hop.ensures
    c.loop-at.invariant more).1

pub returns : goal.returns
returns g c = λ starts limit reach low.
    let w = c.args.waits.now in
    let s = c.args.ways.now in
    let few : slice_index s.costs c.loop-at.at ≤ 1 = omega (arith, c.loop-at-test.false, c.cost.ensures) in
    subst (IsWay w starts s c.args.item) (sym c.reverse.ensures.items)
    (IsWay-traced w starts limit s reach c.args.item low c.loop-at.at c.loop-at.hops.items c.loop-at.invariant few
    no_hop)

pub cost-requires : goal.cost-requires
cost-requires g c = omega (arith, c.loop-at.invariant.below, c.requires.one_each)

pub hop_to-hop-requires : goal.hop_to-hop-requires
hop_to-hop-requires g c = omega (arith, c.loop-at.invariant.below, c.requires.by_each)
