use Rattle.std.proofs.Common.{◌≡◌, ◌+◌, ℕ, Bool, false, List, [], length, map, take, set, slice_index}
use Rattle.std.proofs.Common.{slice_index_or, sym, ap, subst, ◌∙◌, arith}
use Rattle.std.specs.Prelude.{filter}
use Rattle.std.proofs.lemmas.List.FromFn.{length-map-range_with_len}
use Rattle.wq_buckets.specs.Places.{places_of}
use Rattle.wq_graph.specs.declared.arc.WaitArc.{WaitArc}
use Rattle.wq_graph.specs.Graph.{arcs_at}
use Rattle.wq_levels.proofs.Graphs.{arcs_at-below}
use Rattle.wq_levels.proofs.Ranks.{AreRanks-few}
use Rattle.wq_core.proofs.Results.{OnErr-holds}
use Rattle.wq_plan.specs.Plan.{least_of}
use Rattle.wq_plan.proofs.Doubts.{at-place}
use Rattle.wq_around.specs.Down.{leads_on, doubts_by}
use Rattle.wq_around.proofs.Descents.{ends_by, leads_by}
use Rattle.wq_around.proofs.DoubtLemmas.{AreDoubtsSoFar, AreDoubtsSoFar-none, AreDoubtsSoFar-set, AreDoubtsSoFar-end}
use Rattle.wq_around.proofs.DoubtLemmas.{AreDoubtsSoFar-taken, AreDoubtsSoFar-small, AreDoubtsSoFar-all}
use Rattle.wq_around.proofs.chain.all_doubts.Goals as goal
use Rattle.wq_around.proofs.chain.all_doubts.Goals.{then-not-is_end, else-not-is_end}

pub returns-in_err-doubts-clause-memory : goal.returns-in_err-doubts-clause-memory
returns-in_err-doubts-clause-memory g c =
    OnErr-holds c.from_residual.result (omega (arith, c.in_err-doubts.ensures.memory, c.requires.ranks.one_each))

pub count_of-levels-requires : goal.count_of-levels-requires
count_of-levels-requires g c = λ k d fits.
    omega (
      arith,
      AreRanks-few c.args.graph.now c.args.ranks.now c.requires.graph c.requires.ranks k d fits,
      c.requires.graph.few,
    )

pub loop-rank-init : goal.loop-rank-init
loop-rank-init g c =
    AreDoubtsSoFar-none (λ place. slice_index_or c.args.unsure.now place false) c.args.graph.now c.args.new
    c.args.heights.now c.args.ranks.now c.in_ok-doubts.doubts.items c.in_ok-doubts.ensures.zeros

pub places-place-items-requires : goal.places-place-items-requires
places-place-items-requires g c =
    omega (
      arith,
      c.loop-rank-test.true,
      ap length c.in_ok-by_rank.ensures.buckets,
      length-map-range_with_len (places_of c.args.ranks.now) 0 c.count_of-levels.result,
    )

pub overflow_cast-lane : goal.overflow_cast-lane
overflow_cast-lane g c =
    let at =
    at-place c.args.ranks.now c.places-place-items.result.now c.in_ok-by_rank.by_rank c.count_of-levels.result
    c.loop-rank.rank c.loop-place.place-index c.in_ok-by_rank.ensures.buckets c.loop-rank-test.true
    c.places-place-items.ensures c.loop-place-test.true in
    omega (arith, at.1, c.requires.ranks.one_each, c.requires.graph.few)

pub is_end-requires : goal.is_end-requires
is_end-requires g c =
    let at =
    at-place c.args.ranks.now c.places-place-items.result.now c.in_ok-by_rank.by_rank c.count_of-levels.result
    c.loop-rank.rank c.loop-place.place-index c.in_ok-by_rank.ensures.buckets c.loop-rank-test.true
    c.places-place-items.ensures c.loop-place-test.true in
    omega (arith, at.1, c.requires.ranks.one_each, c.requires.one_each)

pub arcs-arcs-requires : goal.arcs-arcs-requires
arcs-arcs-requires g c =
    let at =
    at-place c.args.ranks.now c.places-place-items.result.now c.in_ok-by_rank.by_rank c.count_of-levels.result
    c.loop-rank.rank c.loop-place.place-index c.in_ok-by_rank.ensures.buckets c.loop-rank-test.true
    c.places-place-items.ensures c.loop-place-test.true in
    omega (arith, at.1, c.requires.ranks.one_each)

pub fewest_doubts-fewest-requires : goal.fewest_doubts-fewest-requires
fewest_doubts-fewest-requires g c =
    let at =
    at-place c.args.ranks.now c.places-place-items.result.now c.in_ok-by_rank.by_rank c.count_of-levels.result
    c.loop-rank.rank c.loop-place.place-index c.in_ok-by_rank.ensures.buckets c.loop-rank-test.true
    c.places-place-items.ensures c.loop-place-test.true in
    record {
      lane = omega (arith, at.1, c.requires.ranks.one_each, c.requires.one_each);
      one_each = omega (
        arith,
        ap length c.as_slice.ensures.value,
        c.loop-place.invariant.known.one_each,
        c.requires.ranks.one_each,
        c.requires.one_each,
      );
      heads = rw (c.arcs-arcs.ensures, c.requires.one_each)
          (arcs_at-below c.args.graph.now c.requires.graph
          (slice_index c.places-place-items.result.now c.loop-place.place-index));
      heights = c.requires.heights;
      few = rw c.as_slice.ensures.value
          (AreDoubtsSoFar-small (λ place. slice_index_or c.args.unsure.now place false) c.args.graph.now c.args.new
          c.args.heights.now c.args.ranks.now c.requires.graph c.requires.ranks c.requires.down c.loop-rank.rank
          (take c.loop-place.place-index c.places-place-items.result.now) c.loop-place.doubts.items
          c.loop-place.invariant);
    }

pub index_mut-requires : goal.index_mut-requires
index_mut-requires g c =
    let at =
    at-place c.args.ranks.now c.places-place-items.result.now c.in_ok-by_rank.by_rank c.count_of-levels.result
    c.loop-rank.rank c.loop-place.place-index c.in_ok-by_rank.ensures.buckets c.loop-rank-test.true
    c.places-place-items.ensures c.loop-place-test.true in
    omega (arith, at.1, c.loop-place.invariant.known.one_each, c.loop-place.doubts.ok)

pub loop-place-preserved : goal.loop-place-preserved
loop-place-preserved g c =
    let unsure : ℕ → Bool = λ place. slice_index_or c.args.unsure.now place false in
    let graph = c.args.graph.now in
    let new : ℕ = c.args.new in
    let heights : List ℕ = c.args.heights.now in
    let ranks : List ℕ = c.args.ranks.now in
    let rank : ℕ = c.loop-rank.rank in
    let k : ℕ = c.loop-place.place-index in
    let ps : List ℕ = c.places-place-items.result.now in
    let now : List ℕ = c.loop-place.doubts.items in
    let at =
    at-place ranks ps c.in_ok-by_rank.by_rank c.count_of-levels.result rank k c.in_ok-by_rank.ensures.buckets
    c.loop-rank-test.true c.places-place-items.ensures c.loop-place-test.true in
    let v : ℕ = slice_index ps k in
    elim c.if-not-is_end.branch [
      | then-not-is_end w ↦
          let more = leads_by new heights v (sym c.is_end.ensures ∙ w.if-not-is_end.true) in
          let is : w.fewest_doubts-fewest.result
          ≡ least_of (map (doubts_by unsure now) (filter (leads_on heights new v) (arcs_at graph v))) =
          w.fewest_doubts-fewest.ensures
          ∙ ap (λ (l : List ℕ). least_of (map (doubts_by unsure l)
          (filter (leads_on heights new v) w.arcs-arcs.result.now))) w.as_slice.ensures.value
          ∙ ap (λ (l : List WaitArc). least_of (map (doubts_by unsure now) (filter (leads_on heights new v) l)))
          w.arcs-arcs.ensures in
          let written : c.if-not-is_end.doubts.items ≡ set now v w.fewest_doubts-fewest.result =
          ap (λ l. l.items) w.doubts-is in
          subst (AreDoubtsSoFar unsure graph new heights ranks rank (take (k + 1) ps)) (sym written)
          (AreDoubtsSoFar-set unsure graph new heights ranks c.requires.graph c.requires.ranks c.requires.down rank k ps
          now c.loop-place.invariant c.loop-place-test.true at.1 at.2 w.fewest_doubts-fewest.result more is)
      | else-not-is_end w ↦
          let end = ends_by new heights v (sym c.is_end.ensures ∙ w.if-not-is_end.false) in
          subst (AreDoubtsSoFar unsure graph new heights ranks rank (take (k + 1) ps))
          (sym (ap (λ l. l.items) w.doubts-is))
          (AreDoubtsSoFar-end unsure graph new heights ranks c.requires.graph c.requires.ranks c.requires.down rank k ps
          now c.loop-place.invariant c.loop-place-test.true at.1 at.2 end.0 end.1)
    ]

pub loop-rank-preserved : goal.loop-rank-preserved
loop-rank-preserved g c =
    AreDoubtsSoFar-taken (λ place. slice_index_or c.args.unsure.now place false) c.args.graph.now c.args.new
    c.args.heights.now c.args.ranks.now c.requires.graph c.requires.ranks c.requires.down c.loop-rank.rank
    c.loop-place.place-index c.count_of-levels.result c.places-place-items.result.now c.loop-place.doubts.items
    c.in_ok-by_rank.by_rank c.loop-rank-test.true c.in_ok-by_rank.ensures.buckets c.places-place-items.ensures
    (omega (arith, c.loop-place-test.false)) c.loop-place.invariant

pub returns-clause-doubts : goal.returns-clause-doubts
returns-clause-doubts g c =
    AreDoubtsSoFar-all (λ place. slice_index_or c.args.unsure.now place false) c.args.graph.now c.args.new
    c.args.heights.now c.args.ranks.now c.requires.graph c.requires.ranks c.requires.down c.requires.one_each
    c.loop-rank.rank c.loop-rank.doubts.items
    (omega (arith, c.loop-rank-test.false, c.count_of-levels.ensures.count)) c.loop-rank.invariant

pub returns-clause-few : goal.returns-clause-few
returns-clause-few g c =
    AreDoubtsSoFar-small (λ place. slice_index_or c.args.unsure.now place false) c.args.graph.now c.args.new
    c.args.heights.now c.args.ranks.now c.requires.graph c.requires.ranks c.requires.down c.loop-rank.rank []
    c.loop-rank.doubts.items c.loop-rank.invariant
