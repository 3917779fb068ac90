use Rattle.std.proofs.Common.{◌≡◌, ◌+◌, ◌≤◌, inr, List, ap, ◌∙◌, arith}
use Rattle.std.specs.Prelude.{flat_map}
use Rattle.wq_core.specs.Wiring.{HasRescuer, lane_of}
use Rattle.wq_hang.specs.declared.hop.Hop.{Hop}
use Rattle.wq_hang.specs.Walk.{IsHop, IsRound, IsFirstToBare, target_beside, unsure_part}
use Rattle.wq_hang.specs.Search.{IsLeastRound, hops_cost}
use Rattle.wq_hang.proofs.LeastFound.{
  BareCostsMore,
  limit-bare,
  limit-enough,
  limit-low,
  IsLeastWalk-round,
  IsRoundOrFirst-round,
  IsLeastWalk-bare,
  IsSafe-no_round,
  AreFirstAlike-bare,
  BeginsUnsure-one,
}
use Rattle.wq_hang.proofs.hanging.least_walk.Goals as goal

pub least_of_all-requires : goal.least_of_all-requires
least_of_all-requires g c =
    record { numbers = c.requires; low = limit-low c.first_to_bare-bare.result c.limit.result c.limit.ensures }

pub returns-in-Some-clause-some : goal.returns-in-Some-clause-some
returns-in-Some-clause-some g c =
    let w = c.args.waits.now in
    let limit = c.limit.result in
    let hops = c.in-Some.hops.items in
    let is : IsLeastRound w limit hops = rw c.in-Some.is at c.in_ok-found.ensures.some in
    let enough : BareCostsMore w limit = limit-enough w c.first_to_bare-bare.result limit c.limit.ensures
    c.first_to_bare-bare.ensures.some c.first_to_bare-bare.ensures.none in
    IsLeastWalk-round w limit hops c.in_ok-beside.beside.items enough is
    (c.in_ok-beside.ensures ∙ ap (flat_map target_beside) c.as_slice.ensures.value)

pub returns-in-Some-clause-first : goal.returns-in-Some-clause-first
returns-in-Some-clause-first g c =
    let w = c.args.waits.now in
    let limit = c.limit.result in
    let hops = c.in-Some.hops.items in
    let is : IsLeastRound w limit hops = rw c.in-Some.is at c.in_ok-found.ensures.some in
    let enough : BareCostsMore w limit = limit-enough w c.first_to_bare-bare.result limit c.limit.ensures
    c.first_to_bare-bare.ensures.some c.first_to_bare-bare.ensures.none in
    IsRoundOrFirst-round w limit hops c.in_ok-beside.beside.items enough is
    (c.in_ok-beside.ensures ∙ ap (flat_map target_beside) c.as_slice.ensures.value)

pub returns-in_ok-vec-in-Some-bare-2-clause-some : goal.returns-in_ok-vec-in-Some-bare-2-clause-some
returns-in_ok-vec-in-Some-bare-2-clause-some g c =
    let w = c.args.waits.now in
    let h : Hop = c.in-Some-bare.hop in
    let limit = c.limit.result in
    let is : IsFirstToBare w h = rw c.in-Some-bare.is at c.first_to_bare-bare.ensures.some in
    let costs : limit ≡ unsure_part h.flush + 4 =
    limit-bare c.first_to_bare-bare.result h limit c.in-Some-bare.is c.limit.ensures in
    let rounds : (others : List Hop) → IsRound w others → limit ≤ hops_cost others = rw c.in_default.is at
    c.in_ok-found.ensures.none in
    IsLeastWalk-bare w limit h c.in_ok-vec-in-Some-bare.field-0.items c.in_ok-vec-in-Some-bare-2.field-0.items is costs
    rounds c.in_ok-vec-in-Some-bare.ensures.items c.in_ok-vec-in-Some-bare-2.ensures.items

pub returns-in_ok-vec-in-Some-bare-2-clause-first : goal.returns-in_ok-vec-in-Some-bare-2-clause-first
returns-in_ok-vec-in-Some-bare-2-clause-first g c =
    let is : IsFirstToBare c.args.waits.now c.in-Some-bare.hop = rw c.in-Some-bare.is at
    c.first_to_bare-bare.ensures.some in
    inr (c.in-Some-bare.hop, c.in_ok-vec-in-Some-bare.ensures.items, is)

pub returns-in_ok-vec-in-Some-bare-2-clause-begins : goal.returns-in_ok-vec-in-Some-bare-2-clause-begins
returns-in_ok-vec-in-Some-bare-2-clause-begins g c =
    BeginsUnsure-one c.in-Some-bare.hop c.in_ok-vec-in-Some-bare.field-0.items c.in_ok-vec-in-Some-bare.ensures.items

pub returns-in_ok-vec-in-Some-bare-2-clause-alike : goal.returns-in_ok-vec-in-Some-bare-2-clause-alike
returns-in_ok-vec-in-Some-bare-2-clause-alike g c =
    let is : IsFirstToBare c.args.waits.now c.in-Some-bare.hop = rw c.in-Some-bare.is at
    c.first_to_bare-bare.ensures.some in
    AreFirstAlike-bare c.args.waits.now c.in-Some-bare.hop c.in_ok-vec-in-Some-bare.field-0.items is
    c.in_ok-vec-in-Some-bare.ensures.items

pub returns-in-None-clause-none : goal.returns-in-None-clause-none
returns-in-None-clause-none g c =
    let w = c.args.waits.now in
    let most : c.limit.result ≡ 134266884 = rw c.in-None.is at c.limit.ensures in
    let rescued : (h : Hop) → IsHop w h → HasRescuer w (lane_of w h.flush.item) = rw c.in-None.is at
    c.first_to_bare-bare.ensures.none in
    let rounds : (others : List Hop) → IsRound w others → c.limit.result ≤ hops_cost others = rw c.in_default.is at
    c.in_ok-found.ensures.none in
    IsSafe-no_round w c.limit.result c.items-items.ensures.wiring
    (omega (arith, most, c.items-items.ensures.few_lanes)) rescued rounds
