use Rattle.std.proofs.Common.{◌≡◌, ◌++◌, ◌∷◌, ◌<◌, ℕ, Bool, false, List, [], length, find, Some, slice_index}
use Rattle.std.proofs.Common.{slice_index_or, refl, sym, ap, subst, ◌∙◌, append_assoc, append-nil, arith}
use Rattle.std.proofs.lemmas.Option.{same_Some, none-some}
use Rattle.wq_graph.specs.declared.arc.WaitArc.{WaitArc}
use Rattle.wq_graph.specs.Graph.{arcs_at}
use Rattle.wq_levels.proofs.First.{IsFirst}
use Rattle.wq_levels.proofs.Graphs.{arcs_at-below}
use Rattle.wq_levels.proofs.Ranks.{AreRanks-fall, AreRanks-few}
use Rattle.wq_core.proofs.Results.{OnErr-holds}
use Rattle.wq_around.specs.Down.{IsFirstDown}
use Rattle.wq_around.proofs.Descents.{height-within, ends_by, leads_by}
use Rattle.wq_around.proofs.FirstDown.{IsNext, is_next, IsFirstDown-end, IsFirstDown-step, next-found, next-above}
use Rattle.wq_around.proofs.chain.follow.Goals as goal

pub loop-init : goal.loop-init
loop-init g c =
    let unsure : ℕ → Bool = λ place. slice_index_or c.args.unsure.now place false in
    let within = height-within c.args.heights.now c.args.first c.requires.first in (
      c.requires.first,
      λ ranks ranked.
          omega (
            arith,
            AreRanks-few c.args.graph.now ranks c.requires.graph ranked c.args.first 0
                (omega (arith, within, c.requires.one_each, ranked.one_each)),
          ),
      λ rest on.
          subst (λ (l : List WaitArc). IsFirstDown unsure c.args.graph.now c.args.new c.args.heights.now
          c.args.doubts.now c.args.first (l ++ rest)) (sym c.new-chain.ensures.items) on,
    )

pub is_end-requires : goal.is_end-requires
is_end-requires g c = height-within c.args.heights.now c.loop.lane c.loop.invariant.0

pub returns-then-is_end-clause-chain : goal.returns-then-is_end-clause-chain
returns-then-is_end-clause-chain g c =
    let unsure : ℕ → Bool = λ place. slice_index_or c.args.unsure.now place false in
    let end = ends_by c.args.new c.args.heights.now c.loop.lane (sym c.is_end.ensures ∙ c.if-is_end.true) in
    subst (IsFirstDown unsure c.args.graph.now c.args.new c.args.heights.now c.args.doubts.now c.args.first)
    (append-nil c.loop.chain.items)
    (c.loop.invariant.2 [] (IsFirstDown-end unsure c.args.graph.now c.args.new c.args.heights.now c.args.doubts.now
    c.requires.graph c.requires.doubts c.loop.lane end.0 end.1))

pub arcs-arcs-requires : goal.arcs-arcs-requires
arcs-arcs-requires g c =
    omega (arith, height-within c.args.heights.now c.loop.lane c.loop.invariant.0, c.requires.one_each)

pub first_on-requires : goal.first_on-requires
first_on-requires g c = record {
  lane = height-within c.args.heights.now c.loop.lane c.loop.invariant.0;
  one_each = omega (arith, c.requires.doubts.one_each, c.requires.one_each);
  heads = rw (c.arcs-arcs.ensures, c.requires.one_each)
      (arcs_at-below c.args.graph.now c.requires.graph c.loop.lane);
  heights = c.requires.heights;
  few = c.requires.few;
}

pub returns-in_default-clause-chain : goal.returns-in_default-clause-chain
returns-in_default-clause-chain g c =
    let unsure : ℕ → Bool = λ place. slice_index_or c.args.unsure.now place false in
    let graph = c.args.graph.now in
    let new : ℕ = c.args.new in
    let heights : List ℕ = c.args.heights.now in
    let doubts : List ℕ = c.args.doubts.now in
    let lane : ℕ = c.loop.lane in
    let more = leads_by new heights lane (sym c.is_end.ensures ∙ c.if-is_end.false) in
    let found = next-found unsure graph new heights doubts c.requires.graph c.requires.doubts lane c.loop.invariant.0
    more in
    let test = is_next unsure graph new heights doubts c.requires.graph c.requires.doubts lane in
    absurd (none-some found.0
    (c.in_default.ensures ∙ ap (λ (l : List WaitArc). find test l) c.arcs-arcs.ensures ∙ found.1))

pub loop-preserved : goal.loop-preserved
loop-preserved g c =
    let unsure : ℕ → Bool = λ place. slice_index_or c.args.unsure.now place false in
    let graph = c.args.graph.now in
    let new : ℕ = c.args.new in
    let heights : List ℕ = c.args.heights.now in
    let doubts : List ℕ = c.args.doubts.now in
    let lane : ℕ = c.loop.lane in
    let arc : WaitArc = c.in-Some.arc.now in
    let some : 0 < slice_index heights lane = c.loop.invariant.0 in
    let more = leads_by new heights lane (sym c.is_end.ensures ∙ c.if-is_end.false) in
    let found = next-found unsure graph new heights doubts c.requires.graph c.requires.doubts lane some more in
    let test = is_next unsure graph new heights doubts c.requires.graph c.requires.doubts lane in
    let is : Some arc ≡ Some found.0 =
    c.in-Some.ensures ∙ ap (λ (l : List WaitArc). find test l) c.arcs-arcs.ensures ∙ found.1 in
    let first : IsFirst (IsNext unsure graph new heights doubts c.requires.graph c.requires.doubts lane)
    (arcs_at graph lane) arc =
    subst (IsFirst (IsNext unsure graph new heights doubts c.requires.graph c.requires.doubts lane)
    (arcs_at graph lane)) (sym (same_Some arc found.0 is)) found.2 in (
      next-above unsure graph new heights doubts c.requires.graph c.requires.doubts lane some more arc first,
      λ ranks ranked.
          let within : lane < length graph =
          omega (arith, height-within heights lane some, c.requires.one_each) in
          let falls : slice_index ranks arc.head < slice_index ranks lane =
          AreRanks-fall graph ranks c.requires.graph ranked lane arc.head within
          (first.place, arc, first.fits, first.here, refl) in
          omega (arith, falls, c.loop.invariant.1 ranks ranked),
      λ rest on.
          let joined : c.push.new.self.items ++ rest ≡ c.loop.chain.items ++ (arc ∷ rest) =
          ap (λ (l : List WaitArc). l ++ rest) c.in_ok-push.ensures.items
          ∙ append_assoc c.loop.chain.items (arc ∷ []) rest in
          subst (IsFirstDown unsure graph new heights doubts c.args.first) (sym joined)
          (c.loop.invariant.2 (arc ∷ rest)
          (IsFirstDown-step unsure graph new heights doubts c.requires.graph c.requires.doubts lane some more arc first
          rest on)),
    )

pub returns-in_err-push-clause-memory : goal.returns-in_err-push-clause-memory
returns-in_err-push-clause-memory g c =
    OnErr-holds c.from_residual.result
    (omega (arith, height-within c.args.heights.now c.loop.lane c.loop.invariant.0, c.requires.one_each))

pub returns-clause-chain : goal.returns-clause-chain
returns-clause-chain g c =
    let ranked = c.requires.ranked in
    absurd (omega (
      arith,
      c.loop.invariant.1 ranked.0 ranked.1,
      c.loop-test.false,
      c.vertices-end.ensures.vertices,
    ))
