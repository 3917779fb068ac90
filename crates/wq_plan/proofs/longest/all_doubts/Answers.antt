use Rattle.std.proofs.Common.{◌≡◌, ◌-◌, ◌<◌, ℕ, Bool, false, List, length, take}
use Rattle.std.proofs.Common.{slice_index, slice_index_or, get_or, replicate, ap, sym, subst, ◌∙◌, arith}
use Rattle.std.specs.List.{All}
use Rattle.std.proofs.lemmas.List.{take_all, length-replicate, get_or-replicate}
use Rattle.std.proofs.lemmas.List.Elements.{All-replicate}
use Rattle.std.proofs.lemmas.List.FromFn.{length-map-range_with_len, fill_by_all}
use Rattle.wq_buckets.specs.Places.{places_of}
use Rattle.wq_buckets.proofs.Picking.{places-at}
use Rattle.wq_graph.specs.declared.arc.WaitArc.{WaitArc}
use Rattle.wq_levels.proofs.Graphs.{arcs_at-below}
use Rattle.wq_plan.specs.Plan.{least_doubts}
use Rattle.wq_plan.proofs.Lanes.{lanes_of-above}
use Rattle.wq_plan.proofs.Doubts.{AreKnownSoFar, AreKnownSoFar-next, AreKnownSoFar-lane, AreKnownSoFar-all}
use Rattle.wq_plan.proofs.Doubts.{doubts-found, at-place, least_doubts-sure}
use Rattle.wq_plan.proofs.longest.all_doubts.Goals as goal

pub new-requires-clause-keys : goal.new-requires-clause-keys
new-requires-clause-keys g c = λ k d fits. omega (arith, lanes_of-above c.args.lane.now k d fits, c.requires.lanes)

pub places-vertex-items-requires : goal.places-vertex-items-requires
places-vertex-items-requires g c =
    omega (
      arith,
      c.loop-above-test.true,
      ap length c.in_ok-on.ensures.buckets,
      length-map-range_with_len (places_of c.args.lane.now) 0 c.args.lanes,
    )

pub overflow_cast-vertex : goal.overflow_cast-vertex
overflow_cast-vertex g c =
    let at =
    at-place c.args.lane.now c.places-vertex-items.result.now c.in_ok-on.on c.args.lanes c.loop-above.above
    c.loop-vertex.vertex-index c.in_ok-on.ensures.buckets c.loop-above-test.true c.places-vertex-items.ensures
    c.loop-vertex-test.true in
    omega (arith, at.1, c.requires.one_each, c.requires.graph.few)

pub arcs-arcs-requires : goal.arcs-arcs-requires
arcs-arcs-requires g c =
    let at =
    at-place c.args.lane.now c.places-vertex-items.result.now c.in_ok-on.on c.args.lanes c.loop-above.above
    c.loop-vertex.vertex-index c.in_ok-on.ensures.buckets c.loop-above-test.true c.places-vertex-items.ensures
    c.loop-vertex-test.true in
    omega (arith, at.1, c.requires.one_each)

pub fewest_doubts-fewest-requires : goal.fewest_doubts-fewest-requires
fewest_doubts-fewest-requires g c = record {
  one_each = ap length c.as_slice.ensures.value ∙ c.loop-vertex.invariant.one_each;
  vertices = rw (c.arcs-arcs.ensures, c.requires.one_each)
      (arcs_at-below c.args.graph.now c.requires.graph
      (slice_index c.places-vertex-items.result.now c.loop-vertex.vertex-index));
  few = rw c.as_slice.ensures.value c.loop-vertex.invariant.few;
}

pub index_mut-requires : goal.index_mut-requires
index_mut-requires g c =
    let at =
    at-place c.args.lane.now c.places-vertex-items.result.now c.in_ok-on.on c.args.lanes c.loop-above.above
    c.loop-vertex.vertex-index c.in_ok-on.ensures.buckets c.loop-above-test.true c.places-vertex-items.ensures
    c.loop-vertex-test.true in
    omega (arith, at.1, c.loop-vertex.invariant.one_each, c.loop-vertex.doubts.ok)

pub loop-vertex-preserved : goal.loop-vertex-preserved
loop-vertex-preserved g c =
    let graph = c.args.graph.now in
    let lane : List ℕ = c.args.lane.now in
    let unsure : ℕ → Bool = λ place. slice_index_or c.args.unsure.now place false in
    let above : ℕ = c.loop-above.above in
    let ps : List ℕ = c.places-vertex-items.result.now in
    let k : ℕ = c.loop-vertex.vertex-index in
    let now : List ℕ = c.as_slice.result.now in
    let at =
    at-place lane ps c.in_ok-on.on c.args.lanes above k c.in_ok-on.ensures.buckets c.loop-above-test.true
    c.places-vertex-items.ensures
    c.loop-vertex-test.true in
    let v : ℕ = slice_index ps k in
    let heads : All (λ (a : WaitArc). a.head < length lane) c.arcs-arcs.result.now =
    rw (c.arcs-arcs.ensures, c.requires.one_each) (arcs_at-below graph c.requires.graph v) in
    let is : c.fewest_doubts-fewest.result ≡ least_doubts unsure graph lane above v =
    c.fewest_doubts-fewest.ensures
    ∙ doubts-found unsure graph lane now above (above - 1) v c.arcs-arcs.result.now
    (omega (arith, c.loop-above.auto.above)) c.arcs-arcs.ensures heads (λ w fits below.
    ap (λ (l : List ℕ). slice_index l w) c.as_slice.ensures.value ∙ c.loop-vertex.invariant.lower w fits
    (omega (arith, below, c.loop-above.auto.above))) in
    AreKnownSoFar-next unsure graph lane above k ps c.loop-vertex.doubts.items c.fewest_doubts-fewest.result
    c.loop-vertex.invariant c.loop-vertex-test.true at.1
    (omega (arith, c.loop-above-test.true, c.requires.few)) at.2 is

pub loop-above-preserved : goal.loop-above-preserved
loop-above-preserved g c =
    let graph = c.args.graph.now in
    let lane : List ℕ = c.args.lane.now in
    let unsure : ℕ → Bool = λ place. slice_index_or c.args.unsure.now place false in
    let above : ℕ = c.loop-above.above in
    let ps : List ℕ = c.places-vertex-items.result.now in
    let k : ℕ = c.loop-vertex.vertex-index in
    let same : ps ≡ places_of lane above = c.places-vertex-items.ensures ∙ places-at lane c.in_ok-on.on c.args.lanes
    above c.loop-above-test.true c.in_ok-on.ensures.buckets in
    let all : take k ps ≡ places_of lane above = take_all k ps (omega (arith, c.loop-vertex-test.false)) ∙ same in
    AreKnownSoFar-lane unsure graph lane above c.loop-vertex.doubts.items
    (subst (λ (l : List ℕ). AreKnownSoFar unsure graph lane above l c.loop-vertex.doubts.items) all
    c.loop-vertex.invariant)

pub returns-clause-doubts : goal.returns-clause-doubts
returns-clause-doubts g c =
    let unsure : ℕ → Bool = λ place. slice_index_or c.args.unsure.now place false in
    AreKnownSoFar-all unsure c.args.graph.now c.args.lane.now c.loop-above.above c.loop-above.doubts.items
    (omega (arith, c.loop-above-test.false, c.requires.lanes)) c.loop-above.invariant

pub returns-then-not-is_any-clause-doubts : goal.returns-then-not-is_any-clause-doubts
returns-then-not-is_any-clause-doubts g c =
    let lane : List ℕ = c.args.lane.now in
    let unsure : ℕ → Bool = λ place. slice_index_or c.args.unsure.now place false in
    let doubts : List ℕ = c.in_ok-doubts.doubts.items in
    let zeros : doubts ≡ replicate (length lane) 0 = c.in_ok-doubts.ensures.items_if_clones_equal (λ y e. e) in
    let size : length doubts ≡ length lane = ap (λ (l : List ℕ). length l) zeros
    ∙ length-replicate {A = ℕ} (length lane) 0 in
    let none : (place : ℕ) → unsure place ≡ false = c.is_any.ensures c.if-not-is_any.true in
    fill_by_all (λ v. least_doubts unsure c.args.graph.now lane (slice_index lane v) v) doubts (length lane) 0 size
    (λ k lt.
    ap (λ (l : List ℕ). get_or l k 0) zeros ∙ get_or-replicate {A = ℕ} (length lane) k 0 0 lt
    ∙ sym (least_doubts-sure unsure c.args.graph.now lane none (slice_index lane k) k))

pub returns-then-not-is_any-clause-few : goal.returns-then-not-is_any-clause-few
returns-then-not-is_any-clause-few g c =
    let zeros : c.in_ok-doubts.doubts.items ≡ replicate (length c.args.lane.now) 0 =
    c.in_ok-doubts.ensures.items_if_clones_equal (λ y e. e) in
    subst (All (λ n. n < 4096)) (sym zeros) (All-replicate (λ n. n < 4096) (length c.args.lane.now) 0 (omega arith))
