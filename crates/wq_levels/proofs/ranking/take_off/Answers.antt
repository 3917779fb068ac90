use Rattle.std.proofs.Common.{◌≡◌, ◌≤◌, ◌+◌, ℕ, inl, inr, List, Some, None, length, map, slice_index, sym, subst, ap, ◌∙◌, arith}
use Rattle.std.specs.Prelude.{slice_get}
use Rattle.std.proofs.lemmas.Bool.{cases_lt}
use Rattle.std.proofs.lemmas.List.FromFn.{length-map-range_with_len}
use Rattle.std.proofs.lemmas.Option.{get_or_from_slice_get, slice_get_within, slice_get-get_or}
use Rattle.wq_buckets.specs.Places.{places_of}
use Rattle.wq_levels.specs.Taking.{Taking, heads_of, times, tails_at, tails_by_head, with_arcs_gone}
use Rattle.wq_levels.proofs.Beside.{AreTails-by_head, tails-at, tails-within}
use Rattle.wq_levels.proofs.Taken.{IsTaking, IsTaking-none, IsTaking-vertex, IsTaking-enough, IsTaking-more, IsTaking-past, AreTakenOff-all}
use Rattle.wq_levels.proofs.ranking.take_off.Goals as goal
use Rattle.wq_levels.proofs.ranking.take_off.Goals.{in-Some+in_ok-take_off, in_default}

pub loop-place-init : goal.loop-place-init
loop-place-init g c = IsTaking-none c.args.graph.now c.in_ok-progress.progress c.in_ok-progress.ensures.remaining c.in_ok-progress.ensures.ranks c.in_ok-progress.ensures.order

pub places-requires : goal.places-requires
places-requires g c =
    let graph = c.args.graph.now in
    let order = c.loop-place.progress.order in
    let here : slice_get order c.loop-place.place ≡ Some c.in-Some.vertex = ap (slice_get order) (sym c.from.ensures) ∙ sym c.nth.ensures ∙ c.in-Some.is in
    let vertex = IsTaking-vertex graph (tails_by_head graph) c.loop-place.progress c.loop-place.place c.in-Some.vertex (AreTails-by_head graph) c.loop-place.invariant
    (slice_get_within order c.loop-place.place c.in-Some.vertex here) (get_or_from_slice_get order c.loop-place.place c.in-Some.vertex 0 here) in
    let many = ap length c.in_ok-incoming.ensures.places ∙ length-map-range_with_len (places_of (heads_of graph)) 0 (length graph) in
    omega (arith, vertex, many)

pub take_off-requires-clause-places : goal.take_off-requires-clause-places
take_off-requires-clause-places g c =
    let graph = c.args.graph.now in
    let order = c.loop-place.progress.order in
    let here : slice_get order c.loop-place.place ≡ Some c.in-Some.vertex = ap (slice_get order) (sym c.from.ensures) ∙ sym c.nth.ensures ∙ c.in-Some.is in
    let vertex = IsTaking-vertex graph (tails_by_head graph) c.loop-place.progress c.loop-place.place c.in-Some.vertex (AreTails-by_head graph) c.loop-place.invariant
    (slice_get_within order c.loop-place.place c.in-Some.vertex here) (get_or_from_slice_get order c.loop-place.place c.in-Some.vertex 0 here) in
    tails-within graph c.in_ok-incoming.incoming.places c.deref.result.now c.places.result.now c.in-Some.vertex c.in_ok-incoming.ensures.places (c.deref.ensures.value ∙ c.in_ok-incoming.ensures.tails) vertex c.places.ensures

pub take_off-requires-clause-vertex : goal.take_off-requires-clause-vertex
take_off-requires-clause-vertex g c =
    let order = c.loop-place.progress.order in
    let shown = tails_by_head c.args.graph.now in
    let here : slice_get order c.loop-place.place ≡ Some c.in-Some.vertex = ap (slice_get order) (sym c.from.ensures) ∙ sym c.nth.ensures ∙ c.in-Some.is in
    let vertex = IsTaking-vertex c.args.graph.now shown c.loop-place.progress c.loop-place.place c.in-Some.vertex (AreTails-by_head c.args.graph.now) c.loop-place.invariant
    (slice_get_within order c.loop-place.place c.in-Some.vertex here) (get_or_from_slice_get order c.loop-place.place c.in-Some.vertex 0 here) in
    omega (arith, vertex, c.loop-place.invariant.going.ranks_each)

pub take_off-requires-clause-some : goal.take_off-requires-clause-some
take_off-requires-clause-some g c =
    let order = c.loop-place.progress.order in
    let v : ℕ = c.in-Some.vertex in
    let shown = tails_by_head c.args.graph.now in
    let here : slice_get order c.loop-place.place ≡ Some v = ap (slice_get order) (sym c.from.ensures) ∙ sym c.nth.ensures ∙ c.in-Some.is in
    let in_order = slice_get_within order c.loop-place.place v here in
    let at = get_or_from_slice_get order c.loop-place.place v 0 here in
    let vertex = IsTaking-vertex c.args.graph.now shown c.loop-place.progress c.loop-place.place v (AreTails-by_head c.args.graph.now) c.loop-place.invariant in_order at in
    let listed : map (slice_index c.deref.result.now) c.places.result.now ≡ tails_at shown v =
    tails-at c.args.graph.now c.in_ok-incoming.incoming.places c.deref.result.now c.places.result.now v c.in_ok-incoming.ensures.places (c.deref.ensures.value ∙ c.in_ok-incoming.ensures.tails) vertex c.places.ensures in
    subst (λ (l : List ℕ). (u : ℕ) → times l u ≤ slice_index c.loop-place.progress.remaining u) (sym listed)
    (IsTaking-enough c.args.graph.now shown c.loop-place.progress c.loop-place.place v (AreTails-by_head c.args.graph.now) c.loop-place.invariant in_order at)

pub loop-place-preserved : goal.loop-place-preserved
loop-place-preserved g c =
    let graph = c.args.graph.now in
    let place : ℕ = c.loop-place.place in
    let order = c.loop-place.progress.order in
    elim c.match-nth.branch [
      | in-Some+in_ok-take_off w ↦
          let v : ℕ = w.in-Some.vertex in
          let shown = tails_by_head c.args.graph.now in
          let here : slice_get order place ≡ Some v = ap (slice_get order) (sym c.from.ensures) ∙ sym c.nth.ensures ∙ w.in-Some.is in
          let in_order = slice_get_within order place v here in
          let at = get_or_from_slice_get order place v 0 here in
          let vertex = IsTaking-vertex graph shown c.loop-place.progress place v (AreTails-by_head c.args.graph.now) c.loop-place.invariant in_order at in
          let listed : map (slice_index w.deref.result.now) w.places.result.now ≡ tails_at shown v =
          tails-at graph c.in_ok-incoming.incoming.places w.deref.result.now w.places.result.now v c.in_ok-incoming.ensures.places (w.deref.ensures.value ∙ c.in_ok-incoming.ensures.tails) vertex w.places.ensures in
          let more : IsTaking graph (place + 1) (with_arcs_gone (slice_index c.loop-place.progress.ranks v) c.loop-place.progress (tails_at shown v)) =
          IsTaking-more graph shown c.loop-place.progress place v (AreTails-by_head c.args.graph.now) c.loop-place.invariant in_order at in
          subst (λ (p : Taking). IsTaking graph (place + 1) p)
          (sym (w.progress-is ∙ w.in_ok-take_off.ensures ∙ ap (with_arcs_gone (slice_index c.loop-place.progress.ranks v) c.loop-place.progress) listed)) more
      | in_default w ↦
          let none : slice_get order place ≡ None = ap (slice_get order) (sym c.from.ensures) ∙ sym c.nth.ensures ∙ w.in_default.is in
          let past : length order ≤ place = elim (cases_lt place (length order)) [
            | inl before ↦ absurd (let bad : Some (slice_index order place) ≡ None = sym (slice_get-get_or order place 0 before) ∙ none in cc)
            | inr past ↦ past
          ] in
          subst (λ (p : Taking). IsTaking graph (place + 1) p) (sym w.progress-is) (IsTaking-past graph c.loop-place.progress place c.loop-place.invariant past)
    ]

pub returns : goal.returns
returns g c =
    let graph = c.args.graph.now in
    let all : c.loop-place.place ≡ length graph = omega (arith, c.loop-place-test.false, c.loop-place.auto.place-end, c.vertices-place-end.ensures.vertices) in
    AreTakenOff-all graph c.loop-place.progress c.vertices-place-end.ensures.graph
    (subst (λ (n : ℕ). IsTaking graph n c.loop-place.progress) all c.loop-place.invariant)
