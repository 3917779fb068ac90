use Rattle.std.proofs.Common.{◌≡◌, ◌+◌, ◌≤◌, ℕ, List, length, map, fold, max, slice_index, ap, ◌∙◌, arith}
use Rattle.std.proofs.lemmas.List.Elements.{All-set}
use Rattle.std.proofs.lemmas.List.FromFn.{length-map-range_with_len}
use Rattle.wq_buckets.specs.Places.{places_of}
use Rattle.wq_graph.specs.declared.arc.WaitArc.{WaitArc}
use Rattle.wq_levels.proofs.Graphs.{arcs_at-below}
use Rattle.wq_levels.proofs.Ranks.{AreRanks-few}
use Rattle.wq_core.proofs.Results.{OnErr-holds}
use Rattle.wq_fixed.specs.Fixed.{fixed_lanes}
use Rattle.wq_plan.proofs.Doubts.{at-place}
use Rattle.wq_around.specs.Heights.{IsHeight}
use Rattle.wq_around.specs.Down.{one_if_new}
use Rattle.wq_around.proofs.HeightLemmas.{IsHeight-few, one_if_new-byte}
use Rattle.wq_around.proofs.SoFar.{AreSoFar-set, AreSoFar-taken}
use Rattle.wq_around.proofs.HeightsSoFar.{height-found}
use Rattle.wq_around.proofs.heights.heights.Goals as goal

pub returns-in_err-heights-clause-memory : goal.returns-in_err-heights-clause-memory
returns-in_err-heights-clause-memory g c =
    OnErr-holds c.from_residual.result (omega (arith, c.in_err-heights.ensures.memory, c.requires.ranks.one_each))

pub count_of-levels-requires : goal.count_of-levels-requires
count_of-levels-requires g c = λ k d fits.
    omega (
      arith,
      AreRanks-few c.args.graph.now c.args.ranks.now c.requires.graph c.requires.ranks k d fits,
      c.requires.graph.few,
    )

pub places-lane-items-requires : goal.places-lane-items-requires
places-lane-items-requires g c =
    omega (
      arith,
      c.loop-rank-test.true,
      ap length c.in_ok-by_rank.ensures.buckets,
      length-map-range_with_len (places_of c.args.ranks.now) 0 c.count_of-levels.result,
    )

pub overflow_cast-lane : goal.overflow_cast-lane
overflow_cast-lane g c =
    let at =
    at-place c.args.ranks.now c.places-lane-items.result.now c.in_ok-by_rank.by_rank c.count_of-levels.result
    c.loop-rank.rank c.loop-lane.lane-index c.in_ok-by_rank.ensures.buckets c.loop-rank-test.true
    c.places-lane-items.ensures c.loop-lane-test.true in
    omega (arith, at.1, c.requires.ranks.one_each, c.requires.graph.few)

pub arcs-requires : goal.arcs-requires
arcs-requires g c =
    let at =
    at-place c.args.ranks.now c.places-lane-items.result.now c.in_ok-by_rank.by_rank c.count_of-levels.result
    c.loop-rank.rank c.loop-lane.lane-index c.in_ok-by_rank.ensures.buckets c.loop-rank-test.true
    c.places-lane-items.ensures c.loop-lane-test.true in
    omega (arith, at.1, c.requires.ranks.one_each)

pub greatest-below-requires : goal.greatest-below-requires
greatest-below-requires g c =
    let size : length c.as_slice.result.now ≡ length c.args.graph.now =
    ap length c.as_slice.ensures.value ∙ c.loop-lane.invariant.0.one_each ∙ c.requires.ranks.one_each in
    rw (c.arcs.ensures, size)
    (arcs_at-below c.args.graph.now c.requires.graph
    (slice_index c.places-lane-items.result.now c.loop-lane.lane-index))

pub overflow_add-below : goal.overflow_add-below
overflow_add-below g c =
    let at =
    at-place c.args.ranks.now c.places-lane-items.result.now c.in_ok-by_rank.by_rank c.count_of-levels.result
    c.loop-rank.rank c.loop-lane.lane-index c.in_ok-by_rank.ensures.buckets c.loop-rank-test.true
    c.places-lane-items.ensures c.loop-lane-test.true in
    let v : ℕ = slice_index c.places-lane-items.result.now c.loop-lane.lane-index in
    let below : c.greatest-below.result
    ≡ fold max 0 (map (λ (a : WaitArc). slice_index c.loop-lane.heights.items a.head) c.arcs.result.now) =
    c.greatest-below.ensures
    ∙ ap (λ (l : List ℕ). fold max 0 (map (λ (a : WaitArc). slice_index l a.head) c.arcs.result.now))
    c.as_slice.ensures.value in
    let one : c.from-in-loop-lane.result ≡ one_if_new (fixed_lanes c.args.fixed.now) v =
    c.from-in-loop-lane.ensures ∙ one_if_new-byte c.from.result v
    ∙ ap (λ (n : ℕ). one_if_new n v) (c.from.ensures ∙ c.lanes.ensures.lanes) in
    let is = height-found c.args.graph.now c.args.fixed.now c.args.ranks.now c.requires.graph c.requires.ranks
    c.loop-rank.rank c.loop-lane.lane-index c.places-lane-items.result.now c.loop-lane.heights.items
    c.loop-lane.invariant.0 at.1 at.2 c.arcs.result.now c.greatest-below.result c.from-in-loop-lane.result
    c.arcs.ensures below one in
    omega (
      arith,
      IsHeight-few c.args.graph.now c.args.fixed.now c.args.ranks.now c.requires.graph c.requires.ranks v
          (c.greatest-below.result + c.from-in-loop-lane.result) (omega (arith, at.1, c.requires.ranks.one_each)) is,
    )

pub index_mut-requires : goal.index_mut-requires
index_mut-requires g c =
    let at =
    at-place c.args.ranks.now c.places-lane-items.result.now c.in_ok-by_rank.by_rank c.count_of-levels.result
    c.loop-rank.rank c.loop-lane.lane-index c.in_ok-by_rank.ensures.buckets c.loop-rank-test.true
    c.places-lane-items.ensures c.loop-lane-test.true in
    omega (arith, at.1, c.loop-lane.invariant.0.one_each, c.loop-lane.heights.ok)

pub loop-lane-preserved : goal.loop-lane-preserved
loop-lane-preserved g c =
    let at =
    at-place c.args.ranks.now c.places-lane-items.result.now c.in_ok-by_rank.by_rank c.count_of-levels.result
    c.loop-rank.rank c.loop-lane.lane-index c.in_ok-by_rank.ensures.buckets c.loop-rank-test.true
    c.places-lane-items.ensures c.loop-lane-test.true in
    let v : ℕ = slice_index c.places-lane-items.result.now c.loop-lane.lane-index in
    let n : ℕ = c.greatest-below.result + c.from-in-loop-lane.result in
    let below : c.greatest-below.result
    ≡ fold max 0 (map (λ (a : WaitArc). slice_index c.loop-lane.heights.items a.head) c.arcs.result.now) =
    c.greatest-below.ensures
    ∙ ap (λ (l : List ℕ). fold max 0 (map (λ (a : WaitArc). slice_index l a.head) c.arcs.result.now))
    c.as_slice.ensures.value in
    let one : c.from-in-loop-lane.result ≡ one_if_new (fixed_lanes c.args.fixed.now) v =
    c.from-in-loop-lane.ensures ∙ one_if_new-byte c.from.result v
    ∙ ap (λ (m : ℕ). one_if_new m v) (c.from.ensures ∙ c.lanes.ensures.lanes) in
    let is = height-found c.args.graph.now c.args.fixed.now c.args.ranks.now c.requires.graph c.requires.ranks
    c.loop-rank.rank c.loop-lane.lane-index c.places-lane-items.result.now c.loop-lane.heights.items
    c.loop-lane.invariant.0 at.1 at.2 c.arcs.result.now c.greatest-below.result c.from-in-loop-lane.result
    c.arcs.ensures below one in
    let few = IsHeight-few c.args.graph.now c.args.fixed.now c.args.ranks.now c.requires.graph c.requires.ranks v n
    (omega (arith, at.1, c.requires.ranks.one_each)) is in (
      AreSoFar-set (IsHeight c.args.graph.now c.args.fixed.now) c.args.ranks.now c.loop-rank.rank
          c.loop-lane.lane-index c.places-lane-items.result.now c.loop-lane.heights.items c.loop-lane.invariant.0
          c.loop-lane-test.true n at.1 at.2 is,
      All-set (λ m. m ≤ 4096) c.loop-lane.heights.items v n few c.loop-lane.invariant.1,
    )

pub loop-rank-preserved : goal.loop-rank-preserved
loop-rank-preserved g c = (
  AreSoFar-taken (IsHeight c.args.graph.now c.args.fixed.now) c.args.ranks.now c.loop-rank.rank c.loop-lane.lane-index
      c.count_of-levels.result c.places-lane-items.result.now c.loop-lane.heights.items c.in_ok-by_rank.by_rank
      c.loop-rank-test.true c.in_ok-by_rank.ensures.buckets c.places-lane-items.ensures
      (omega (arith, c.loop-lane-test.false)) c.loop-lane.invariant.0,
  c.loop-lane.invariant.1,
)
